use Rattle.std.specs.Prelude.{⊤}
use Rattle.jsonptr_patch.proofs.FailingLemmas.{refused_as, memory_as}
use Rattle.jsonptr_patch.proofs.patch.apply_comparing.Goals as goal

pub returns-in-Err-clause-refused : goal.returns-in-Err-clause-refused
returns-in-Err-clause-refused c = refused_as ⊤ _ _ _ c.in-Err.fault _ c.without_pointer.ensures c.in-Err.ensures.refused

pub returns-in-Err-clause-no_memory : goal.returns-in-Err-clause-no_memory
returns-in-Err-clause-no_memory c = λ h. memory_as ⊤ c.in-Err.fault _ c.without_pointer.ensures (c.in-Err.ensures.no_memory h)
