use Rattle.jsonptr_comments.proofs.BareLemmas.{bare_of, without_of}
use Rattle.jsonptr_comments.proofs.laws.bare_law.Goals as goal

pub returns : goal.returns
returns c = λ text bare. (without_of text bare, bare_of text bare)
