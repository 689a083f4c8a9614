use Rattle.jsonptr_grammar.proofs.FaultLemmas.{pointer_or_fault, no_lack-IsPointer, no_tilde_fault-IsPointer, no_tilde_fault-lack, IsTildeFault_one}
use Rattle.jsonptr_grammar.proofs.first_fault.pointer_fault_law.Goals as goal

pub returns : goal.returns
returns c = record { fault = pointer_or_fault; no_lack = λ s r. no_lack-IsPointer r; no_tilde = λ s p o r. no_tilde_fault-IsPointer p o r; apart = no_tilde_fault-lack; one = IsTildeFault_one }
