use Rattle.std.proofs.Common.{arith}
use Rattle.jsonptr_base.proofs.TokenLemmas.{valid_block}
use Rattle.jsonptr_base.proofs.token.scan.skip_valid_blocks.Goals as goal

pub loop-at-preserved : goal.loop-at-preserved
loop-at-preserved c = record {
  inside = omega arith;
  valid = valid_block _ _ _ 32 c.loop-at.invariant.valid (λ invalid. let e = c.if-has_invalid_byte.ensures.1 invalid in cc) (omega arith) (omega arith);
}
