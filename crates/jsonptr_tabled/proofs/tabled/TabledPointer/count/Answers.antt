use Rattle.std.proofs.Common.{ap, ◌∙◌, length}
use Rattle.jsonptr.proofs.SlashesLemmas.{length-offsets}
use Rattle.jsonptr_tabled.proofs.tabled.TabledPointer.count.Goals as goal

pub returns : goal.returns
returns c = ap length c.offsets.ensures ∙ length-offsets c.args.self.now
