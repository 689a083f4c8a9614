use Rattle.std.proofs.Common.{true≢false, string_bytes, sym, ◌∙◌}
use Rattle.jsonptr.specs.Pointer.{tokens}
use Rattle.jsonptr_text_resolve.specs.InText.{FindsInText}
use Rattle.jsonptr_patch.specs.Operating.{IsProperPrefix}
use Rattle.jsonptr_text_value.specs.Raw.{value_of_raw}
use Rattle.jsonptr_text_value.proofs.WrappingLemmas.{raw_reads}
use Rattle.jsonptr_text_step.specs.declared.step.Step.TheVariants.{Delete}
use Rattle.jsonptr_text_step.proofs.EditLemmas.{if_new}
use Rattle.jsonptr_comments_step.specs.PrivateStepping.{IsStepped}
use Rattle.jsonptr_comments_step.proofs.OperationLemmas.{moved, stepped_at}
use Rattle.jsonptr_comments_step.proofs.operate.move_value.Goals as goal

pub returns : goal.returns
returns c = λ raw.
    let text = c.args.texts.text.now in
    let bare = c.args.texts.bare.now in
    let value = c.in-Some.value in
    let left = string_bytes c.in-Some-2.left.text in
    let rest = string_bytes c.in-Some-2.left.bare in
    let apart : IsProperPrefix (tokens c.args.from) (tokens c.args.path) → ⊥ = λ h. true≢false (sym (c.is_proper_prefix.ensures.1 h) ∙ c.if-is_proper_prefix.false) in
    let found : FindsInText bare (tokens c.args.from) (value_of_raw value) = rw c.in-Some.is at c.in_ok-value.ensures in
    let cut : IsStepped text bare (Delete c.args.from) left rest = rw c.in-Some-2.is at c.in_ok-left.ensures in
    if_new c.take_commented_step-2.result _ _
    (λ s h.
    moved text bare left rest c.args.from c.args.path _ (value_of_raw value) raw _ _ apart (raw_reads value) found cut
    (stepped_at left rest _ _ _ _ _ c.as_str.ensures.value c.as_str-2.ensures.value h))
    c.take_commented_step-2.ensures
