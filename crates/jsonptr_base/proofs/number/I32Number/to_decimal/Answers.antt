use Rattle.jsonptr_base.proofs.NumberLemmas.{printed_signed}
use Rattle.jsonptr_base.proofs.number.I32Number.to_decimal.Goals as goal

pub returns : goal.returns
returns c = printed_signed _ _ _ c.ranges.self c.to_string.ensures.ok
