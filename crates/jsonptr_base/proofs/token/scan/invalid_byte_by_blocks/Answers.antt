use Rattle.jsonptr_base.proofs.TokenLemmas.{IsToken-nowhere}
use Rattle.jsonptr_base.proofs.token.scan.invalid_byte_by_blocks.Goals as goal

pub returns-in_err-first : goal.returns-in_err-first
returns-in_err-first c = rw c.from_residual.ensures (IsToken-nowhere _ c.in_err-first.ensures)
