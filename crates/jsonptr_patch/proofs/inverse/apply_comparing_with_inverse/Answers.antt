use Rattle.std.specs.Prelude.{⊤}
use Rattle.jsonptr_patch.proofs.FailingLemmas.{refused_as}
use Rattle.jsonptr_patch.proofs.inverse.apply_comparing_with_inverse.Goals as goal

pub returns-in-Err-clause-refused : goal.returns-in-Err-clause-refused
returns-in-Err-clause-refused c = refused_as ⊤ _ _ _ c.in-Err.fault _ c.without_pointer.ensures c.in-Err.ensures.refused
