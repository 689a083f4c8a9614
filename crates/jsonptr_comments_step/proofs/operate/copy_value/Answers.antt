use Rattle.jsonptr.specs.Pointer.{tokens}
use Rattle.jsonptr_text_resolve.specs.InText.{FindsInText}
use Rattle.jsonptr_text_value.specs.Raw.{value_of_raw}
use Rattle.jsonptr_text_value.proofs.WrappingLemmas.{raw_reads}
use Rattle.jsonptr_text_step.proofs.EditLemmas.{if_new}
use Rattle.jsonptr_comments_step.proofs.OperationLemmas.{copied}
use Rattle.jsonptr_comments_step.proofs.operate.copy_value.Goals as goal

pub returns : goal.returns
returns c = λ raw.
    let value = c.in-Some.value in
    let found : FindsInText c.args.texts.bare.now (tokens c.args.from) (value_of_raw value) = rw c.in-Some.is at c.in_ok-value.ensures in
    if_new c.take_commented_step.result _ _ (λ s h. copied _ _ c.args.from _ _ (value_of_raw value) raw _ _ (raw_reads value) found h) c.take_commented_step.ensures
