use Rattle.std.proofs.Common.{arith, refl}
use Rattle.jsonptr_tabled.proofs.TableLemmas.{shifted_down_more}
use Rattle.jsonptr_tabled.proofs.table.shift_down.Goals as goal

pub loop-i-preserved : goal.loop-i-preserved
loop-i-preserved c = shifted_down_more c.args.offsets.now c.loop-i.offsets c.args.by c.loop-i.i _ c.loop-i.invariant (omega arith) (omega (arith, c.loop-i-test.true, c.loop-i.invariant.len)) refl
