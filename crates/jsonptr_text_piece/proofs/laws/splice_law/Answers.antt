use Rattle.jsonptr_text_piece.proofs.PieceLaws.{spliced}
use Rattle.jsonptr_text_piece.proofs.laws.splice_law.Goals as goal

pub returns : goal.returns
returns c = spliced
