use Rattle.std.proofs.Common.{◌≡◌, refl}
use Rattle.serde_json.specs.View.{view}
use Rattle.jsonptr_text_value.specs.Raw.{value_of_raw}
use Rattle.jsonptr_text_step.proofs.EditLemmas.{if_new}
use Rattle.jsonptr_comments_step.proofs.OperationLemmas.{printed_reads, put_given, put_printed}
use Rattle.jsonptr_comments_step.proofs.operate.replace_given.Goals as goal

pub returns-in-Some : goal.returns-in-Some
returns-in-Some c =
    if_new c.take_commented_step.result _ _ (λ s h. put_given _ _ _ _ _ _ c.in-Some.raw _ _ c.in-Some.is c.requires.given refl h) c.take_commented_step.ensures

pub returns-in-Some-2 : goal.returns-in-Some-2
returns-in-Some-2 c =
    let same : value_of_raw c.in-Some-2.raw ≡ view c.args.given.value.now = rw c.in-Some-2.is at c.in_ok-raw-in-None.ensures in
    if_new c.take_commented_step-in-None.result _ _ (λ s h. put_printed _ _ _ _ _ _ _ _ c.in-None.is (printed_reads c.args.given.value.now c.in-Some-2.raw same) h) c.take_commented_step-in-None.ensures
