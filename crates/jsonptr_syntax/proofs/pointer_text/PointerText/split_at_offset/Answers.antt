use Rattle.jsonptr_syntax.proofs.CutBetween.{splits_at, splits_nowhere, split_front_valid, split_rest_valid}
use Rattle.jsonptr_syntax.proofs.pointer_text.PointerText.split_at_offset.Goals as goal

pub returns-in_err-front-clause-split : goal.returns-in_err-front-clause-split
returns-in_err-front-clause-split c = rw c.from_residual.ensures (splits_nowhere _ _ c.args.self.now.valid c.in_err-front.ensures)

pub returns-clause-split : goal.returns-clause-split
returns-clause-split c = splits_at _ _ _ _ c.args.self.now.valid c.in_ok-front.ensures.0 c.in_ok-front.ensures.1 c.in_ok-front.ensures.2

pub invariant_of-result : goal.invariant_of-result
invariant_of-result c = record { valid = split_front_valid _ _ _ c.args.self.now.valid c.in_ok-front.ensures.0 }

pub invariant_of-result-2 : goal.invariant_of-result-2
invariant_of-result-2 c = record { valid = split_rest_valid _ _ _ c.args.self.now.valid c.in_ok-front.ensures.0 }
