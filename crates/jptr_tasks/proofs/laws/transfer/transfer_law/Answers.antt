use Rattle.jptr_tasks.proofs.TransferLemmas.{only_child}
use Rattle.jptr_tasks.proofs.laws.transfer.transfer_law.Goals as goal

pub returns : goal.returns
returns c = only_child
