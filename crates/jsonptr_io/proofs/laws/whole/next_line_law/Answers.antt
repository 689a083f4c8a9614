use Rattle.jsonptr_io.proofs.WholeLemmas.{next_broken, next_last, next_none}
use Rattle.jsonptr_io.proofs.laws.whole.next_line_law.Goals as goal

pub returns-clause-broken : goal.returns-clause-broken
returns-clause-broken c = next_broken

pub returns-clause-last : goal.returns-clause-last
returns-clause-last c = next_last

pub returns-clause-none : goal.returns-clause-none
returns-clause-none c = next_none
