use Rattle.toml.specs.View.{view}
use Rattle.jsonptr.specs.TomlValue.{content}
use Rattle.jsonptr_session.proofs.FoundLemmas.{given_ordered}
use Rattle.jsonptr_session.proofs.toml_value.ValueSessionDocument.assign_at.Goals as goal

pub returns-clause-returned_sorted : goal.returns-clause-returned_sorted
returns-clause-returned_sorted c = given_ordered view content _ _ _ _ _ c.assign.ensures.assigned
