use Rattle.serde_json.specs.View.{view}
use Rattle.jsonptr.specs.Json.{nodes}
use Rattle.jsonptr_patch.proofs.AddingLemmas.{taken}
use Rattle.jsonptr_patch.proofs.later.delete_plain.Goals as goal

pub returns-clause-removed : goal.returns-clause-removed
returns-clause-removed c =
    let found = rw c.in-Ok-Some.field-0-is at c.in-Ok-Some.ensures.found in
    (nodes (view c.in-Ok-Some.value), taken _ _ _ _ found c.in-Ok-Some.ensures.deleted)
