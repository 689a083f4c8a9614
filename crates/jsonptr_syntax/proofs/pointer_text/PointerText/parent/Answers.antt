use Rattle.jsonptr_syntax.proofs.CutFirst.{begins_valid}
use Rattle.jsonptr_syntax.proofs.CutLast.{back_front, back_some}
use Rattle.jsonptr_syntax.proofs.pointer_text.PointerText.parent.Goals as goal

pub split_last-requires : goal.split_last-requires
split_last-requires c = begins_valid _ c.args.self.now.valid

pub returns : goal.returns
returns c = (_, back_some _ _ _ c.args.self.now.valid c.in_ok-front.ensures)

pub invariant_of-result : goal.invariant_of-result
invariant_of-result c = record { valid = back_front _ _ _ c.args.self.now.valid c.in_ok-front.ensures }
