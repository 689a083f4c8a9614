use Rattle.jsonptr_syntax.proofs.TildeFault.{nil_pointer}
use Rattle.jsonptr_syntax.proofs.scan.fault_of.Goals as goal

pub returns-in-empty : goal.returns-in-empty
returns-in-empty c = nil_pointer _ c.in-empty.len_below
