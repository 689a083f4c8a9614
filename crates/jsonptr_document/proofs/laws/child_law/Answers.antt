use Rattle.jsonptr_document.proofs.ChildLemmas.{child_or_refused, reason_one}
use Rattle.jsonptr_document.proofs.laws.child_law.Goals as goal

pub returns-clause-some : goal.returns-clause-some
returns-clause-some c = λ n x tree utf8. child_or_refused c.index_law.ensures.some x utf8 n tree

pub returns-clause-not_both : goal.returns-clause-not_both
returns-clause-not_both c = λ n x s e named there refused. refused.lacks s named there

pub returns-clause-one : goal.returns-clause-one
returns-clause-one c = reason_one c.index_law.ensures.one
