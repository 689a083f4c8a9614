use Rattle.jsonptr_syntax.proofs.FaultLaws as lemmas
use Rattle.jsonptr_syntax.proofs.laws.source_law.Goals as goal

pub returns : goal.returns
returns c = lemmas.source_law
