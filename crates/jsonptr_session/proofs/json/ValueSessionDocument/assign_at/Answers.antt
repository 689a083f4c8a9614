use Rattle.serde_json.specs.View.{view}
use Rattle.jsonptr.specs.Json.{content}
use Rattle.jsonptr_session.proofs.FoundLemmas.{given_ordered}
use Rattle.jsonptr_session.proofs.json.ValueSessionDocument.assign_at.Goals as goal

pub returns-clause-returned_sorted : goal.returns-clause-returned_sorted
returns-clause-returned_sorted c = given_ordered view content _ _ _ _ _ c.assign.ensures.assigned
