use Rattle.std.proofs.Common.{[], ◌∷◌, arith}
use Rattle.jsonptr.specs.Json.{nodes}
use Rattle.jsonptr.specs.Pointer.{tokens}
use Rattle.serde_json.specs.View.{view}
use Rattle.jsonptr_patch.specs.Apart.{AllDiverge, pointers}
use Rattle.jsonptr_patch.proofs.ApartnessLemmas.{exact_false, exact_true, one_more, each_right, fails_right}
use Rattle.jsonptr_patch.proofs.apart.diverges_from_each.Goals as goal

pub returns-then-not-branch : goal.returns-then-not-branch
returns-then-not-branch c = exact_false _ (fails_right (nodes (view c.args.document.now)) (tokens c.args.pointer ∷ []) c.args.others.now c.loop-other.other-index c.other-item.result c.in_ok-diverges_from_one.field-0 c.loop-other-test.true c.other-item.is c.in_ok-diverges_from_one.ensures c.if-not-branch.true)

pub loop-other-preserved : goal.loop-other-preserved
loop-other-preserved c = one_more (λ o. AllDiverge (nodes (view c.args.document.now)) (tokens c.args.pointer ∷ []) (pointers o)) c.args.others.now c.loop-other.other-index c.other-item.result c.loop-other-test.true c.other-item.is (c.in_ok-diverges_from_one.ensures.0 c.if-not-branch.false) c.loop-other.invariant

pub returns : goal.returns
returns c = exact_true _ (each_right (nodes (view c.args.document.now)) (tokens c.args.pointer ∷ []) c.args.others.now (λ k x low. c.loop-other.invariant k x (omega (arith, low, c.loop-other-test.false))))
