use Rattle.jsonptr_grammar.proofs.FaultLemmas.{token_or_fault, no_token_fault, IsTokenFault_one}
use Rattle.jsonptr_grammar.proofs.first_fault.token_fault_law.Goals as goal

pub returns : goal.returns
returns c = record { fault = token_or_fault; excludes = λ s o r. no_token_fault r o; one = IsTokenFault_one }
