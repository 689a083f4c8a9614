use Rattle.jsonptr_io.proofs.LineLemmas.{some_lines, one_lines}
use Rattle.jsonptr_io.proofs.laws.lines_law.Goals as goal

pub returns-clause-some : goal.returns-clause-some
returns-clause-some c = some_lines

pub returns-clause-one : goal.returns-clause-one
returns-clause-one c = λ bytes ls ks p q. one_lines ls ks bytes p q
