use Rattle.std.proofs.Common.{[], ◌∷◌}
use Rattle.jsonptr.specs.Json.{nodes}
use Rattle.jsonptr.specs.Pointer.{tokens}
use Rattle.serde_json.specs.View.{view}
use Rattle.jsonptr_patch.proofs.ApartnessLemmas.{exact_all, exact_false, fails, both_right, first_right}
use Rattle.jsonptr_patch.proofs.apart.diverges_from_both.Goals as goal

pub returns-then-not-branch : goal.returns-then-not-branch
returns-then-not-branch c = exact_false _ (λ all. fails c.in_ok-diverge.field-0 _ c.in_ok-diverge.ensures c.if-not-branch.true
    (first_right (nodes (view c.args.document.now)) (tokens c.args.pointer ∷ []) (tokens c.args.from ∷ []) (tokens c.args.path ∷ []) all))

pub returns : goal.returns
returns c = exact_all c.diverge-2.result _ _ (both_right (nodes (view c.args.document.now)) (tokens c.args.pointer ∷ []) (tokens c.args.from ∷ []) (tokens c.args.path ∷ []) c.in_ok-diverge.field-0 c.in_ok-diverge.ensures c.if-not-branch.false) c.diverge-2.ensures
