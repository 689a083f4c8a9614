use Rattle.jsonptr_patch.proofs.PartLemmas.{copy_parts, copy_whole}
use Rattle.jsonptr_patch.proofs.laws.operation.copy_law.Goals as goal

pub returns : goal.returns
returns c = record { parts = copy_parts; whole = copy_whole }
