use Rattle.jsonptr_comments.proofs.BareLemmas.{one_text}
use Rattle.jsonptr_comments.proofs.laws.function_law.Goals as goal

pub returns : goal.returns
returns c = one_text
