use Rattle.std.proofs.Common.{Option, IfSome, true≢false, string_bytes, sym, ◌∙◌, subst}
use Rattle.jsonptr.specs.Text.{Text}
use Rattle.jsonptr.specs.Pointer.{tokens}
use Rattle.jsonptr_patch.specs.Operating.{IsProperPrefix}
use Rattle.jsonptr_text_layout.specs.declared.value_text.ValueText.{ValueText}
use Rattle.jsonptr_text_step.specs.declared.plan.Made.{Made}
use Rattle.jsonptr_text_step.specs.Steps.{AddsInText, AddsAtByText}
use Rattle.jsonptr_text_step.specs.Bytes.{DeletesBytes}
use Rattle.jsonptr_text_step.specs.EditInText.{DeletesInText}
use Rattle.jsonptr_text_step.specs.PatchInText.{MovesBytes}
use Rattle.jsonptr_text_step.specs.PrivateOperating.{FindsText, MovesInText}
use Rattle.jsonptr_text_step.proofs.EditLemmas.{if_new}
use Rattle.jsonptr_text_step.proofs.OperatingLemmas.{moves}
use Rattle.jsonptr_text_step.proofs.BytesLemmas.{adds_value_at}
use Rattle.jsonptr_text_step.proofs.operate.move_value.Goals as goal

pub returns-clause-moved : goal.returns-clause-moved
returns-clause-moved c =
    let old = c.args.text.now in
    let from = tokens c.args.from in
    let path = tokens c.args.path in
    let flat = string_bytes c.in-Some.printed.flat in
    let left = c.as_str.result.now in
    let apart : IsProperPrefix from path → ⊥ = λ h. true≢false (sym (c.is_proper_prefix.ensures.1 h) ∙ c.if-is_proper_prefix.false) in
    let found = subst (λ (o : Option ValueText). IfSome o (λ t. FindsText old from (string_bytes t.flat))) c.in-Some.is c.in_ok-printed.ensures in
    let deleted = subst (λ (o : Option Made). IfSome o (λ s. DeletesInText old from (string_bytes s.text))) c.in-Some-2.is c.in_ok-left.ensures.deleted in
    let to_left = subst (λ (t : Text). DeletesInText old from t) (sym c.as_str.ensures.value) deleted in
    if_new c.add_at.result
    (λ s. AddsInText left path flat (string_bytes s.text))
    (λ s. MovesInText old from path (string_bytes s.text))
    (λ s h. moves old left (string_bytes s.text) from path flat apart found to_left h)
    c.add_at.ensures.added

pub returns-clause-bytes : goal.returns-clause-bytes
returns-clause-bytes c =
    let old = c.args.text.now in
    let from = tokens c.args.from in
    let path = tokens c.args.path in
    let left = c.as_str.result.now in
    let deleted = subst (λ (o : Option Made). IfSome o (λ s. DeletesBytes old from (string_bytes s.text))) c.in-Some-2.is c.in_ok-left.ensures.bytes in
    let to_left = subst (λ (t : Text). DeletesBytes old from t) (sym c.as_str.ensures.value) deleted in
    let flat = string_bytes c.in-Some.printed.flat in
    let found = subst (λ (o : Option ValueText). IfSome o (λ t. FindsText old from (string_bytes t.flat))) c.in-Some.is c.in_ok-printed.ensures in
    if_new c.add_at.result
    (λ s. AddsAtByText left path flat (string_bytes s.text))
    (λ s. MovesBytes old from path (string_bytes s.text))
    (λ s h. (found.0, found.2, (left, to_left, adds_value_at left (string_bytes s.text) path flat found.0 found.1 h)))
    c.add_at.ensures.bytes
