use Rattle.jsonptr_merge.proofs.MakingLaws.{rules_out}
use Rattle.jsonptr_merge.proofs.laws.making_law.Goals as goal

pub returns : goal.returns
returns c = λ old new p ts. rules_out ts old new p
