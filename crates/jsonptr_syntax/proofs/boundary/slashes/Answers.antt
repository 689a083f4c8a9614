use Rattle.std.proofs.Common.{arith, ◌∙◌}
use Rattle.jsonptr_syntax.proofs.SlashCount.{count_block}
use Rattle.jsonptr_syntax.proofs.boundary.slashes.Goals as goal

pub loop-at-preserved : goal.loop-at-preserved
loop-at-preserved c = record {
  within = omega arith;
  so_far = count_block c.as_bytes-bytes.result.now c.loop-at.at c.min.result _ c.loop-at.count c.from-count.result _ (omega arith) c.loop-at.invariant.so_far (c.from-count.ensures ∙ c.block_slashes.ensures);
}
