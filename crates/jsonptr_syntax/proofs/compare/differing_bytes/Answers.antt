use Rattle.jsonptr_syntax.proofs.CompareLemmas.{agree_between, differ_first}
use Rattle.jsonptr_syntax.proofs.compare.differing_bytes.Goals as goal

pub returns-clause-none : goal.returns-clause-none
returns-clause-none c = agree_between _ _ _ c.requires.first c.requires.second

pub returns-clause-some : goal.returns-clause-some
returns-clause-some c = differ_first _ _ _ c.requires.first c.requires.second
