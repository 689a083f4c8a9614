use Rattle.jsonptr_text_step.proofs.BytesLaws.{put_back, cut_again, added_again}
use Rattle.jsonptr_text_step.proofs.laws.undo_law.Goals as goal

pub returns-clause-replaced : goal.returns-clause-replaced
returns-clause-replaced c = put_back

pub returns-clause-added : goal.returns-clause-added
returns-clause-added c = cut_again

pub returns-clause-cut : goal.returns-clause-cut
returns-clause-cut c = added_again
