use Rattle.jsonptr_value.proofs.LevelLemmas.{NestsWithin-depth, depth-within}
use Rattle.jsonptr_value.proofs.depth.depth_law.Goals as goal

pub returns-clause-within : goal.returns-clause-within
returns-clause-within c = NestsWithin-depth

pub returns-clause-least : goal.returns-clause-least
returns-clause-least c = depth-within
