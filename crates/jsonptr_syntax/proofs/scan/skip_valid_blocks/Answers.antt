use Rattle.std.proofs.Common.{arith}
use Rattle.jsonptr_syntax.proofs.TildeFault.{sound_block}
use Rattle.jsonptr_syntax.proofs.scan.skip_valid_blocks.Goals as goal

pub loop-at-preserved : goal.loop-at-preserved
loop-at-preserved c = record {
  inside = omega arith;
  none = sound_block _ _ _ 32 c.loop-at.invariant.none (λ loose. let e = c.if-has_bad_escape.ensures.1 loose in cc) (omega arith) (omega arith);
}
