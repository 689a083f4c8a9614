use Rattle.jsonptr_syntax.proofs.CutBetween.{seam_of_front, split_rest_valid, split_tokens}
use Rattle.jsonptr_syntax.proofs.pointer_text.PointerText.strip_prefix.Goals as goal

pub returns-in_err-rest : goal.returns-in_err-rest
returns-in_err-rest c = rw c.from_residual.ensures (λ b. c.in_err-rest.ensures _ (seam_of_front _ _ c.args.self.now.valid c.args.prefix.valid b))

pub returns : goal.returns
returns c = split_tokens _ _ _ c.args.self.now.valid c.in_ok-rest.ensures

pub invariant_of-result : goal.invariant_of-result
invariant_of-result c = record { valid = split_rest_valid _ _ _ c.args.self.now.valid c.in_ok-rest.ensures }
