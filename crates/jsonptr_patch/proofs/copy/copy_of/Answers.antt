use Rattle.jsonptr_patch.proofs.AddingLemmas.{found_copy, copy_ascends}
use Rattle.jsonptr_patch.proofs.copy.copy_of.Goals as goal

pub returns-in_ok-copy-in-Ok-clause-found : goal.returns-in_ok-copy-in-Ok-clause-found
returns-in_ok-copy-in-Ok-clause-found c = found_copy _ _ _ _ c.in-Ok.ensures.found c.in_ok-copy-in-Ok.ensures

pub returns-in_ok-copy-in-Ok-clause-sorted : goal.returns-in_ok-copy-in-Ok-clause-sorted
returns-in_ok-copy-in-Ok-clause-sorted c = copy_ascends _ _ _ _ c.in-Ok.ensures.found c.in_ok-copy-in-Ok.ensures
