use Rattle.std.proofs.Common.{false, sym}
use Rattle.jsonptr_comments.proofs.UnchangedLemmas.{kept}
use Rattle.jsonptr_comments.proofs.laws.plain_law.Goals as goal

pub returns : goal.returns
returns c = λ text p. (p.0, p.1, sym (kept false p.0 text p.1 p.2))
