use Rattle.toml.specs.View.{view}
use Rattle.jsonptr.specs.TomlValue.{content}
use Rattle.jsonptr_session.proofs.FoundLemmas.{found_map, found_ordered}
use Rattle.jsonptr_session.proofs.toml_value.ValueSessionDocument.swap_at.Goals as goal

pub returns-clause-found : goal.returns-clause-found
returns-clause-found c = found_map view content _ _ _ _ c.swap.ensures.found

pub returns-clause-returned_sorted : goal.returns-clause-returned_sorted
returns-clause-returned_sorted c = found_ordered view content _ _ _ _ c.swap.ensures.found
