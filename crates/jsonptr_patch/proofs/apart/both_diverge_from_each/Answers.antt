use Rattle.std.proofs.Common.{[], ◌∷◌}
use Rattle.jsonptr.specs.Json.{nodes}
use Rattle.jsonptr.specs.Pointer.{tokens}
use Rattle.serde_json.specs.View.{view}
use Rattle.jsonptr_patch.specs.Apart.{all_pointers}
use Rattle.jsonptr_patch.proofs.ApartnessLemmas.{exact_all, exact_false, fails, both_left, first_left}
use Rattle.jsonptr_patch.proofs.apart.both_diverge_from_each.Goals as goal

pub returns-then-not-branch : goal.returns-then-not-branch
returns-then-not-branch c = exact_false _ (λ all. fails c.in_ok-diverges_from_each.field-0 _ c.in_ok-diverges_from_each.ensures c.if-not-branch.true
    (first_left (nodes (view c.args.document.now)) (tokens c.args.from ∷ []) (tokens c.args.path ∷ []) (all_pointers c.args.others.now) all))

pub returns : goal.returns
returns c = exact_all c.diverges_from_each-2.result _ _ (both_left (nodes (view c.args.document.now)) (tokens c.args.from ∷ []) (tokens c.args.path ∷ []) (all_pointers c.args.others.now) c.in_ok-diverges_from_each.field-0 c.in_ok-diverges_from_each.ensures c.if-not-branch.false) c.diverges_from_each-2.ensures
