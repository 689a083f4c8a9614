use Rattle.jsonptr_io.proofs.WholeLemmas.{whole_lines}
use Rattle.jsonptr_io.proofs.laws.whole.whole_law.Goals as goal

pub returns : goal.returns
returns c = whole_lines
