use Rattle.jsonptr_value.proofs.JsonLemmas.{ascends_read}
use Rattle.jsonptr_value.proofs.from_text.read.Goals as goal

pub returns-in-Ok-clause-sorted : goal.returns-in-Ok-clause-sorted
returns-in-Ok-clause-sorted c = ascends_read _ _ c.in-Ok.ensures.ok
