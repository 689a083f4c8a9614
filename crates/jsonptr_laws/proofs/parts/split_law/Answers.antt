use Rattle.jsonptr_laws.proofs.PartLemmas.{split_one, split_at_one, common_one}
use Rattle.jsonptr_laws.proofs.parts.split_law.Goals as goal

pub returns : goal.returns
returns c = record { split = split_one; position = split_at_one; common = common_one }
