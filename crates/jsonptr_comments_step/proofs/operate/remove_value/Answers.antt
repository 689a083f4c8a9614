use Rattle.jsonptr_text_step.proofs.EditLemmas.{if_new}
use Rattle.jsonptr_comments_step.proofs.OperationLemmas.{removed}
use Rattle.jsonptr_comments_step.proofs.operate.remove_value.Goals as goal

pub returns : goal.returns
returns c = λ raw. if_new c.take_commented_step.result _ _ (λ s h. removed _ _ _ raw _ _ h) c.take_commented_step.ensures
