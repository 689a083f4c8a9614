use Rattle.jsonptr_io.proofs.WholeLemmas.{prefix_is}
use Rattle.jsonptr_io.proofs.laws.whole.prefix_law.Goals as goal

pub returns : goal.returns
returns c = prefix_is
