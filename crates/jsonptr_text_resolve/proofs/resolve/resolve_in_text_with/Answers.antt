use Rattle.std.proofs.Common.{◌≡◌, List, Some, subst, arith}
use Rattle.serde_json.specs.View.{view}
use Rattle.jsonptr.specs.Pointer.{tokens}
use Rattle.jsonptr_text_search.specs.declared.selector.Selector.{Selector}
use Rattle.jsonptr_text_search.specs.declared.outcome.Outcome.{Outcome}
use Rattle.jsonptr_text_search.specs.Search.{choices, follow, Stops, IsOutcome}
use Rattle.jsonptr_text_resolve.proofs.SearchLemmas.{found, stops}
use Rattle.jsonptr_text_resolve.proofs.resolve.resolve_in_text_with.Goals as goal

pub returns-in-Ok-Found-clause-found : goal.returns-in-Ok-Found-clause-found
returns-in-Ok-Found-clause-found c =
    let f = c.in-Ok-Found.ensures.found in
    let outcome = subst (λ (o : Outcome). IsOutcome f.0 (choices c.deref.result.now) o) c.in-Ok-Found.field-0-is f.2 in
    let same = subst (λ (ps : List Selector). follow (choices ps) f.0 ≡ Some (view c.in-Ok-Found.value)) c.deref.ensures.value outcome in
    (f.0, f.1, found (tokens c.args.pointer) (choices c.in_ok-selectors.selectors.items) f.0 (view c.in-Ok-Found.value) c.in_ok-selectors.ensures same)

pub returns-in-Ok-Stopped-clause-refused : goal.returns-in-Ok-Stopped-clause-refused
returns-in-Ok-Stopped-clause-refused c =
    let f = c.in-Ok-Stopped.ensures.found in
    let outcome = subst (λ (o : Outcome). IsOutcome f.0 (choices c.deref.result.now) o) c.in-Ok-Stopped.field-0-is f.2 in
    let same = subst (λ (ps : List Selector). Stops f.0 (choices ps) c.in-Ok-Stopped.left c.in-Ok-Stopped.kind) c.deref.ensures.value outcome in
    (f.0, f.1, c.error_at-error.ensures f.0 (stops f.0 (tokens c.args.pointer) (choices c.in_ok-selectors.selectors.items) c.in-Ok-Stopped.left c.in-Ok-Stopped.kind c.in_ok-selectors.ensures (λ len e. grind (arith, c.find_in_text_with.type_inv, c.in-Ok-Stopped.is, e)) same))
