use Rattle.jsonptr_text_paths.proofs.RowLemmas.{line_one}
use Rattle.jsonptr_text_paths.proofs.laws.one_line_law.Goals as goal

pub returns : goal.returns
returns c = line_one
