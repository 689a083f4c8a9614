use Rattle.jsonptr_syntax.proofs.TildeFault.{pointer_or_not, valid_or_told}
use Rattle.jsonptr_syntax.proofs.scan.first_fault.Goals as goal

pub returns-clause-pointer : goal.returns-clause-pointer
returns-clause-pointer c = pointer_or_not _ _ _ c.as_bytes.ensures.value c.fault_of.ensures

pub returns-clause-fault : goal.returns-clause-fault
returns-clause-fault c = valid_or_told _ _ _ c.as_bytes.ensures.value c.fault_of.ensures
