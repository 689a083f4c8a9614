use Rattle.jsonptr_comments_step.proofs.CheckLemmas.{addition_changed}
use Rattle.jsonptr_comments_step.proofs.draft.is_addition.Goals as goal

pub returns : goal.returns
returns c = λ t. addition_changed _ _ _ _ _ _ _ _ (c.is_run.ensures c.if-not-is_run.false) (c.has_new_run.ensures t)
