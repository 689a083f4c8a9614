use Rattle.jsonptr_patch.proofs.AddingLemmas.{proper_front}
use Rattle.jsonptr_patch.proofs.move_value.is_proper_prefix.Goals as goal

pub returns-in-Some : goal.returns-in-Some
returns-in-Some c = proper_front _ _ _ _ c.in-Some.ensures c.is_root.ensures
