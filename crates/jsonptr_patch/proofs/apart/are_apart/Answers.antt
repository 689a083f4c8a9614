use Rattle.std.proofs.Common.{arith}
use Rattle.jsonptr.specs.Json.{nodes}
use Rattle.serde_json.specs.View.{view}
use Rattle.jsonptr_patch.specs.Apart.{AllDiverge, pointers, all_pointers}
use Rattle.jsonptr_patch.proofs.ApartnessLemmas.{exact_false, exact_true, one_more, each_left, fails_left}
use Rattle.jsonptr_patch.proofs.apart.are_apart.Goals as goal

pub returns-then-not-branch : goal.returns-then-not-branch
returns-then-not-branch c = exact_false _ (fails_left (nodes (view c.args.document.now)) c.args.left.now (all_pointers c.args.right.now) c.loop-operation.operation-index c.operation-item.result c.in_ok-is_apart_from_each.field-0 c.loop-operation-test.true c.operation-item.is c.in_ok-is_apart_from_each.ensures c.if-not-branch.true)

pub loop-operation-preserved : goal.loop-operation-preserved
loop-operation-preserved c = one_more (λ o. AllDiverge (nodes (view c.args.document.now)) (pointers o) (all_pointers c.args.right.now)) c.args.left.now c.loop-operation.operation-index c.operation-item.result c.loop-operation-test.true c.operation-item.is (c.in_ok-is_apart_from_each.ensures.0 c.if-not-branch.false) c.loop-operation.invariant

pub returns : goal.returns
returns c = exact_true _ (each_left (nodes (view c.args.document.now)) c.args.left.now (all_pointers c.args.right.now) (λ k x low. c.loop-operation.invariant k x (omega (arith, low, c.loop-operation-test.false))))
