use Rattle.jsonptr_syntax.proofs.FaultLaws.{fault_some, fault_one, fault_inside}
use Rattle.jsonptr_syntax.proofs.TildeFault.{fault_no_pointer}
use Rattle.jsonptr_syntax.proofs.laws.parse_law.Goals as goal

pub returns : goal.returns
returns c = record {
  some = fault_some;
  not_both = λ s e pointer fault. fault_no_pointer s e fault pointer;
  one = fault_one;
  inside = fault_inside;
}
