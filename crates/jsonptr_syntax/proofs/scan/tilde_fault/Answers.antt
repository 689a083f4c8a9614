use Rattle.jsonptr_grammar.proofs.FaultLemmas.{IsPointer-no_loose}
use Rattle.jsonptr_syntax.proofs.scan.tilde_fault.Goals as goal

pub returns-in_err-tilde : goal.returns-in_err-tilde
returns-in_err-tilde c = rw c.from_residual.ensures (IsPointer-no_loose _ c.requires c.in_err-tilde.ensures)
