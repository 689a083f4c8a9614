use Rattle.jptr_tasks.proofs.ExpandingLemmas.{plain, expanded, not_both}
use Rattle.jptr_tasks.proofs.laws.expansion.expansion_law.Goals as goal

pub returns-clause-plain : goal.returns-clause-plain
returns-clause-plain c = plain

pub returns-clause-expanded : goal.returns-clause-expanded
returns-clause-expanded c = expanded

pub returns-clause-not_both : goal.returns-clause-not_both
returns-clause-not_both c = not_both
