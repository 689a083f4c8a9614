use Rattle.jsonptr_base.proofs.NumberLemmas.{printed}
use Rattle.jsonptr_base.proofs.number.U64Number.to_decimal.Goals as goal

pub returns : goal.returns
returns c = printed _ _ _ c.ranges.self c.to_string.ensures.ok
