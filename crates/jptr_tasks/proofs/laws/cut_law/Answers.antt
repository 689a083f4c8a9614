use Rattle.jptr_tasks.proofs.CuttingLemmas.{runs_joined, runs_parted, quiet}
use Rattle.jptr_tasks.proofs.laws.cut_law.Goals as goal

pub returns-clause-joined : goal.returns-clause-joined
returns-clause-joined c = runs_joined

pub returns-clause-parted : goal.returns-clause-parted
returns-clause-parted c = runs_parted

pub returns-clause-quiet : goal.returns-clause-quiet
returns-clause-quiet c = quiet
