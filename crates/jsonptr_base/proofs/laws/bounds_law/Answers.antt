use Rattle.jsonptr_base.proofs.IndexLemmas.{within_some, or_next_some}
use Rattle.jsonptr_base.proofs.laws.bounds_law.Goals as goal

pub returns-clause-within : goal.returns-clause-within
returns-clause-within c = within_some

pub returns-clause-or_next : goal.returns-clause-or_next
returns-clause-or_next c = or_next_some
