use Rattle.std.proofs.Common.{Option, IfSome, string_bytes, subst}
use Rattle.jsonptr.specs.Pointer.{tokens}
use Rattle.jsonptr_text_layout.specs.declared.value_text.ValueText.{ValueText}
use Rattle.jsonptr_text_step.specs.Steps.{AddsInText, AddsAtByText}
use Rattle.jsonptr_text_step.specs.PrivateOperating.{FindsText, CopiesInText}
use Rattle.jsonptr_text_step.proofs.EditLemmas.{if_new}
use Rattle.jsonptr_text_step.proofs.OperatingLemmas.{copies}
use Rattle.jsonptr_text_step.specs.PatchInText.{CopiesBytes}
use Rattle.jsonptr_text_step.proofs.BytesLemmas.{adds_value_at}
use Rattle.jsonptr_text_step.proofs.operate.copy_value.Goals as goal

pub returns-clause-copied : goal.returns-clause-copied
returns-clause-copied c =
    let old = c.args.text.now in
    let from = tokens c.args.from in
    let path = tokens c.args.path in
    let flat = string_bytes c.in-Some.printed.flat in
    let found = subst (λ (o : Option ValueText). IfSome o (λ t. FindsText old from (string_bytes t.flat))) c.in-Some.is c.in_ok-printed.ensures in
    if_new c.add_at.result
    (λ s. AddsInText old path flat (string_bytes s.text))
    (λ s. CopiesInText old from path (string_bytes s.text))
    (λ s h. copies old (string_bytes s.text) from path flat found h)
    c.add_at.ensures.added

pub returns-clause-bytes : goal.returns-clause-bytes
returns-clause-bytes c =
    let old = c.args.text.now in
    let from = tokens c.args.from in
    let path = tokens c.args.path in
    let flat = string_bytes c.in-Some.printed.flat in
    let found = subst (λ (o : Option ValueText). IfSome o (λ t. FindsText old from (string_bytes t.flat))) c.in-Some.is c.in_ok-printed.ensures in
    if_new c.add_at.result
    (λ s. AddsAtByText old path flat (string_bytes s.text))
    (λ s. CopiesBytes old from path (string_bytes s.text))
    (λ s h. (found.0, found.2, adds_value_at old (string_bytes s.text) path flat found.0 found.1 h))
    c.add_at.ensures.bytes
