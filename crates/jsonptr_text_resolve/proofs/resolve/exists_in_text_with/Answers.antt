use Rattle.std.proofs.Common.{◌≡◌, List, Some, subst}
use Rattle.serde_json.specs.View.{view}
use Rattle.jsonptr.specs.Pointer.{tokens}
use Rattle.jsonptr_text_search.specs.declared.selector.Selector.{Selector}
use Rattle.jsonptr_text_search.specs.declared.outcome.Outcome.{Outcome}
use Rattle.jsonptr_text_search.specs.Search.{choices, follow, IsOutcome}
use Rattle.jsonptr_text_resolve.proofs.ChildLemmas.{found_above}
use Rattle.jsonptr_text_resolve.proofs.resolve.exists_in_text_with.Goals as goal

pub returns-in-Found-clause-exists : goal.returns-in-Found-clause-exists
returns-in-Found-clause-exists c =
    let f = c.in_ok-_value.ensures.found in
    let outcome = subst (λ (o : Outcome). IsOutcome f.0 (choices c.deref.result.now) o) c.in-Found.is f.2 in
    let leads = subst (λ (ss : List Selector). follow (choices ss) f.0 ≡ Some (view c.in-Found._value)) c.deref.ensures.value outcome in
    let r = found_above f.0 (view c.in-Found._value) (tokens c.args.pointer) (choices c.in_ok-selectors.selectors.items) c.in_ok-selectors.ensures leads in
    (r.0, (f.0, f.1, r.1))
