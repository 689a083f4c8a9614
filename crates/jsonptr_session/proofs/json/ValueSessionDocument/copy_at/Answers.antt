use Rattle.serde_json.specs.View.{view}
use Rattle.jsonptr.specs.Json.{content}
use Rattle.jsonptr_session.proofs.FoundLemmas.{found_copy, copy_ordered}
use Rattle.jsonptr_session.proofs.json.ValueSessionDocument.copy_at.Goals as goal

pub returns-clause-found : goal.returns-clause-found
returns-clause-found c = found_copy view content _ _ _ _ c.in_ok-resolve.ensures.found c.in_ok-clone.ensures.cases

pub returns-clause-returned_sorted : goal.returns-clause-returned_sorted
returns-clause-returned_sorted c = copy_ordered view content _ _ _ _ c.in_ok-resolve.ensures.found c.in_ok-clone.ensures.cases
