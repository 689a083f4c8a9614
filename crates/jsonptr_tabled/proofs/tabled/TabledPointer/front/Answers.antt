use Rattle.jsonptr_tabled.proofs.ReadingLemmas.{first_read}
use Rattle.jsonptr_tabled.proofs.tabled.TabledPointer.front.Goals as goal

pub returns : goal.returns
returns c = first_read c.args.self.now c.get.result c.get.ensures
