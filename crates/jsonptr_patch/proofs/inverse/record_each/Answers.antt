use Rattle.std.proofs.Common.{◌++◌, ◌∷◌, [], ap, sym, ◌∙◌, append_assoc, arith, length-append}
use Rattle.serde_json.specs.View.{view}
use Rattle.jsonptr.specs.Json.{nodes, content}
use Rattle.jsonptr_tree.proofs.ContentLemmas.{map_of-IsTree}
use Rattle.jsonptr_walk.proofs.FollowLemmas.{refused_on}
use Rattle.jsonptr_patch.specs.Order.{OperationHasSortedKeys}
use Rattle.jsonptr_patch.proofs.InverseLemmas.{pushed_back}
use Rattle.jsonptr_patch.proofs.LaterLemmas.{refused_here}
use Rattle.jsonptr_patch.proofs.OperatingLemmas.{patches_push_by, each_at}
use Rattle.jsonptr_patch.proofs.inverse.record_each.Goals as goal

pub loop-operation-preserved : goal.loop-operation-preserved
loop-operation-preserved c =
    let held = c.loop-operation.invariant in
    let steps = c.in-Some.ensures.steps in
    let split = ap (λ l. c.loop-operation.yielded ++ l) (sym steps.0) ∙ held.rest in
    let next = c.in_ok-step.ensures.applied held.done.0 held.done.2 in
    record {
      rest = append_assoc c.loop-operation.yielded (c.in-Some.operation ∷ []) _ ∙ ap (λ l. c.loop-operation.yielded ++ l) (sym steps.0) ∙ held.rest;
      counted = simp length-append (omega (arith, held.counted));
      done = (next.0, patches_push_by c.args.first.comparison _ _ _ c.loop-operation.yielded c.in-Some.operation held.done.1 next.1, next.2, pushed_back c.args.first.comparison _ held.done.0 next.0 c.loop-operation.yielded _ _ next.3.0 c.in-Some.operation (map_of-IsTree (content (view c.args.document.now))) held.done.1 next.1 held.done.3 next.3.1 next.3.2);
      ordered = λ all a. c.in_ok-step.ensures.sorted (each_at OperationHasSortedKeys _ c.loop-operation.yielded _ c.in-Some.operation all split) (held.ordered all a);
      kept = λ all a. c.in_ok-step.ensures.inverse_sorted (held.ordered all a) (held.kept all a);
      recorded = λ k u. c.in_ok-step.ensures.undone k (held.recorded k u);
    }

pub returns-in_err-step-clause-refused : goal.returns-in_err-step-clause-refused
returns-in_err-step-clause-refused c =
    let held = c.loop-operation.invariant in
    let split = ap (λ l. c.loop-operation.yielded ++ l) (sym c.in-Some.ensures.steps.0) ∙ held.rest in
    refused_on (Unit {0}) _ c.in_err-step.field-0.0 _ _
    (λ e r. refused_here c.args.first.comparison (nodes (view c.args.document.now)) held.done.0 c.args.operations.items c.loop-operation.yielded _ c.in-Some.operation c.loop-operation.number e split held.counted held.done.1 (r held.done.0 held.done.2))
    c.in_err-step.ensures.refused c.from_residual.ensures.1
