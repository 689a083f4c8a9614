use Rattle.serde_json.specs.View.{view}
use Rattle.jsonptr.specs.Json.{content}
use Rattle.jsonptr_session.proofs.FoundLemmas.{found_deleted, deleted_ordered}
use Rattle.jsonptr_session.proofs.json.ValueSessionDocument.delete_at.Goals as goal

pub returns-clause-deleted : goal.returns-clause-deleted
returns-clause-deleted c = found_deleted view content _ _ _ _ _ c.delete.ensures.deleted c.delete.ensures.found

pub returns-clause-returned_sorted : goal.returns-clause-returned_sorted
returns-clause-returned_sorted c = deleted_ordered view content _ _ _ _ c.delete.ensures.found
