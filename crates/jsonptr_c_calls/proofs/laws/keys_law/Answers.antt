use Rattle.jsonptr_c_calls.proofs.KeyLemmas.{first_one, next_one, visits_each, visits_sorted}
use Rattle.jsonptr_c_calls.proofs.laws.keys_law.Goals as goal

pub returns-clause-first : goal.returns-clause-first
returns-clause-first c = first_one

pub returns-clause-next : goal.returns-clause-next
returns-clause-next c = next_one

pub returns-clause-ascending : goal.returns-clause-ascending
returns-clause-ascending c = visits_sorted

pub returns-clause-each : goal.returns-clause-each
returns-clause-each c = visits_each
