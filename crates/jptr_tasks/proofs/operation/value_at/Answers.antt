use Rattle.jsonptr.specs.Pointer.{tokens}
use Rattle.jptr_tasks.proofs.OperationLemmas.{not_found_in_none, not_found_if_refused}
use Rattle.jptr_tasks.proofs.operation.value_at.Goals as goal

pub returns-in-Err-NotJson : goal.returns-in-Err-NotJson
returns-in-Err-NotJson c = not_found_in_none c.args.text.now (tokens c.args.pointer) (rw c.in-Err-NotJson.field-0-is at c.in-Err-NotJson.ensures.refused)

pub returns-in-Err-Resolve : goal.returns-in-Err-Resolve
returns-in-Err-Resolve c = not_found_if_refused c.args.text.now (tokens c.args.pointer) _ (rw c.in-Err-Resolve.field-0-is at c.in-Err-Resolve.ensures.refused)
