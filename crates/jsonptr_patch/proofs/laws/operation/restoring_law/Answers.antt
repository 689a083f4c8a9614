use Rattle.jsonptr_patch.proofs.PartLemmas.{restoring}
use Rattle.jsonptr_patch.proofs.laws.operation.restoring_law.Goals as goal

pub returns : goal.returns
returns c = restoring
