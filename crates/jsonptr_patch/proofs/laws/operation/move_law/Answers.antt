use Rattle.jsonptr_patch.proofs.PartLemmas.{move_parts, move_whole}
use Rattle.jsonptr_patch.proofs.laws.operation.move_law.Goals as goal

pub returns : goal.returns
returns c = record { parts = move_parts; whole = move_whole }
