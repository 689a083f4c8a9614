use Rattle.serde_json.specs.View.{view}
use Rattle.jsonptr.specs.Json.{nodes}
use Rattle.jsonptr_patch.proofs.AddingLemmas.{taken}
use Rattle.jsonptr_patch.proofs.remove.remove_last.Goals as goal

pub returns-in-Some-clause-removed : goal.returns-in-Some-clause-removed
returns-in-Some-clause-removed c =
    let found = rw c.in-Some.is at c.in_ok-value.ensures.found in
    (nodes (view c.in-Some.value), taken _ _ _ _ found c.in_ok-value.ensures.deleted)
