use Rattle.jsonptr_text_piece.proofs.PieceLaws.{one_trimmed}
use Rattle.jsonptr_text_piece.proofs.laws.trimmed_law.Goals as goal

pub returns : goal.returns
returns c = one_trimmed
