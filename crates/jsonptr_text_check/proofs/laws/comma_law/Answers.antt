use Rattle.jsonptr_text_check.proofs.CommaLaws.{one_comma}
use Rattle.jsonptr_text_check.proofs.laws.comma_law.Goals as goal

pub returns : goal.returns
returns c = one_comma
