use Rattle.std.proofs.Common.{sym, ◌∙◌}
use Rattle.serde_json.specs.View.{number_view}
use Rattle.jsonptr_patch.proofs.NumberLemmas.{both_integers, left_float}
use Rattle.jsonptr_patch.proofs.number.is_equal_number.Goals as goal

pub returns-in-Some-Some : goal.returns-in-Some-Some
returns-in-Some-Some c = both_integers (number_view c.args.left.now) (number_view c.args.right.now) _ _ _ (sym c.in-Some-Some.is-0 ∙ c.as_i128.ensures) (sym c.in-Some-Some.is-1 ∙ c.as_i128-2.ensures) c.is_same_integer.ensures

pub returns-in-Some-as_f64 : goal.returns-in-Some-as_f64
returns-in-Some-as_f64 c = left_float (number_view c.args.left.now) (number_view c.args.right.now) c.in-Some-as_f64.float _ (sym c.in-None-default.is-0 ∙ c.as_i128.ensures) c.in-Some-as_f64.ensures c.equals_float-in-Some-as_f64.ensures
