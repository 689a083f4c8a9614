use Rattle.std.proofs.Common.{◌++◌, ◌∷◌, [], ap, sym, ◌∙◌, append_assoc, arith, length-append}
use Rattle.serde_json.specs.View.{view}
use Rattle.jsonptr.specs.Json.{nodes}
use Rattle.jsonptr_walk.proofs.FollowLemmas.{refused_on}
use Rattle.jsonptr_patch.specs.Memory.{TestNeedsNoMemory}
use Rattle.jsonptr_patch.specs.Order.{OperationHasSortedKeys}
use Rattle.jsonptr_patch.proofs.LaterLemmas.{refused_here}
use Rattle.jsonptr_patch.proofs.OperatingLemmas.{patches_push_by, each_at}
use Rattle.jsonptr_patch.proofs.patch.record_all.Goals as goal

pub loop-operation-preserved : goal.loop-operation-preserved
loop-operation-preserved c =
    let held = c.loop-operation.invariant in
    let steps = c.in-Some.ensures.steps in
    let split = ap (λ l. c.loop-operation.yielded ++ l) (sym steps.0) ∙ held.rest in
    let next = c.in_ok-record_or_wait.ensures.applied held.done.0 held.done.2 in
    record {
      rest = append_assoc c.loop-operation.yielded (c.in-Some.operation ∷ []) _ ∙ ap (λ l. c.loop-operation.yielded ++ l) (sym steps.0) ∙ held.rest;
      counted = simp length-append (omega (arith, held.counted));
      done = (next.0, patches_push_by c.args.first.comparison _ _ _ c.loop-operation.yielded c.in-Some.operation held.done.1 next.1, next.2);
      ordered = λ all a. c.in_ok-record_or_wait.ensures.sorted (each_at OperationHasSortedKeys _ c.loop-operation.yielded _ c.in-Some.operation all split) (held.ordered all a);
      recorded = λ k u. c.in_ok-record_or_wait.ensures.undone k (held.recorded k u);
      none = λ all. c.in_ok-record_or_wait.ensures.none (each_at TestNeedsNoMemory _ c.loop-operation.yielded _ c.in-Some.operation all split) (held.none all);
    }

pub returns-in_err-record_or_wait-clause-refused : goal.returns-in_err-record_or_wait-clause-refused
returns-in_err-record_or_wait-clause-refused c =
    let held = c.loop-operation.invariant in
    let split = ap (λ l. c.loop-operation.yielded ++ l) (sym c.in-Some.ensures.steps.0) ∙ held.rest in
    refused_on (Unit {0}) _ c.in_err-record_or_wait.field-0.0 _ _
    (λ e r. refused_here c.args.first.comparison (nodes (view c.args.document.now)) held.done.0 c.args.operations.items c.loop-operation.yielded _ c.in-Some.operation c.loop-operation.number e split held.counted held.done.1 (r held.done.0 held.done.2))
    c.in_err-record_or_wait.ensures.refused c.from_residual.ensures.1
