use Rattle.std.proofs.Common.{arith}
use Rattle.jsonptr_tabled.proofs.ReadingLemmas.{last_read}
use Rattle.jsonptr_tabled.proofs.tabled.TabledPointer.back.Goals as goal

pub returns : goal.returns
returns c = let one = c.in_ok-last.ensures in last_read c.args.self.now c.in_ok-last.last c.get.result (omega (arith, one, c.count.ensures)) c.get.ensures
