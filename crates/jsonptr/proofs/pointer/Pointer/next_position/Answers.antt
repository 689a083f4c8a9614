use Rattle.std.proofs.Common.{arith}
use Rattle.jsonptr.proofs.SliceLemmas.{tokens_below}
use Rattle.jsonptr.proofs.pointer.Pointer.next_position.Goals as goal

pub returns-else-position-len : goal.returns-else-position-len
returns-else-position-len c = tokens_below _ _ c.args.self.now.inner.valid (omega arith)
