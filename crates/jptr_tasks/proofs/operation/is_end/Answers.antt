use Rattle.jptr_tasks.proofs.OperationLemmas.{no_number, no_error, never}
use Rattle.jptr_tasks.proofs.operation.is_end.Goals as goal

pub returns-in-Ok-Num : goal.returns-in-Ok-Num
returns-in-Ok-Num c = never _ (λ e. no_number c.args.token c.in-Ok-Num._index (rw c.in-Ok-Num.field-0-is at c.in-Ok-Num.ensures.decoded) e)

pub returns : goal.returns
returns c = never _ (λ e. no_error c.args.token c.in-Err._error c.in-Err.ensures.decoded e)
