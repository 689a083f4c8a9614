use Rattle.jsonptr_text_step.proofs.BytesLaws.{one_line_if}
use Rattle.jsonptr_text_step.proofs.laws.line_law.Goals as goal

pub returns : goal.returns
returns c = one_line_if
