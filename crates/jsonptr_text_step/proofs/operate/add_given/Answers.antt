use Rattle.std.proofs.Common.{◌≡◌, Option, Some, IfSome, string_bytes, ap, ◌∙◌, subst}
use Rattle.serde_json.specs.Data.{Data}
use Rattle.serde_json.specs.Read.{read}
use Rattle.serde_json.specs.View.{view}
use Rattle.jsonptr.specs.Pointer.{tokens}
use Rattle.jsonptr.specs.Json.{nodes}
use Rattle.jsonptr_text_layout.specs.declared.value_text.ValueText.{ValueText}
use Rattle.jsonptr_text_value.specs.Raw.{value_of_raw}
use Rattle.jsonptr_text_step.specs.Steps.{AddsInText, AddsAtByText}
use Rattle.jsonptr_text_step.specs.PatchInText.{AddsAtBytes}
use Rattle.jsonptr_text_step.specs.PrivateOperating.{AddsValueInText}
use Rattle.jsonptr_text_step.specs.RawPatching.{AddsGiven}
use Rattle.jsonptr_text_step.proofs.BytesLemmas.{adds_given, adds_value_at}
use Rattle.jsonptr_text_step.proofs.EditLemmas.{if_new}
use Rattle.jsonptr_text_step.proofs.OperatingLemmas.{adds_value}
use Rattle.jsonptr_text_step.proofs.RawLemmas.{text_is, adds_some, adds_none}
use Rattle.jsonptr_text_value.proofs.WrappingLemmas.{raw_reads}
use Rattle.jsonptr_text_step.proofs.operate.add_given.Goals as goal

pub returns-in-Some-clause-added : goal.returns-in-Some-clause-added
returns-in-Some-clause-added c =
    let old = c.args.text.now in
    let ts = tokens c.args.pointer in
    let value = c.args.given.value.now in
    let raw = c.in-Some.raw in
    let is = text_is value c.args.given.raw.now raw c.in-Some.is c.requires in
    if_new c.add_at.result
    (λ s. AddsInText old ts (string_bytes raw.printed.flat) (string_bytes s.text))
    (λ s. AddsValueInText old ts (nodes (view value)) (string_bytes s.text))
    (λ s h. adds_value old (string_bytes s.text) ts (string_bytes raw.printed.flat) (view value) (raw_reads raw ∙ ap (λ (d : Data). Some d) is) h)
    c.add_at.ensures.added

pub returns-in-Some-clause-bytes : goal.returns-in-Some-clause-bytes
returns-in-Some-clause-bytes c =
    let r = c.add_at.result in
    let old = c.args.text.now in
    let ts = tokens c.args.pointer in
    let raw = c.in-Some.raw in
    adds_some r old ts c.args.given.value.now c.args.given.raw.now raw c.in-Some.is c.requires
    (if_new r
    (λ s. AddsAtByText old ts (string_bytes raw.printed.flat) (string_bytes s.text))
    (λ s. AddsGiven old ts (value_of_raw raw) (Some raw) (string_bytes s.text))
    (λ s h. adds_given old (string_bytes s.text) ts raw h)
    c.add_at.ensures.bytes)

pub returns-in-Some-2-clause-bytes : goal.returns-in-Some-2-clause-bytes
returns-in-Some-2-clause-bytes c =
    let r = c.add_at-in-None.result in
    let old = c.args.text.now in
    let ts = tokens c.args.pointer in
    let value = c.args.given.value.now in
    let flat = string_bytes c.in-Some-2.printed.flat in
    let reads = subst (λ (o : Option ValueText). IfSome o (λ t. read (string_bytes t.flat) ≡ Some (view value))) c.in-Some-2.is c.in_ok-printed-in-None.ensures in
    adds_none r old ts value c.args.given.raw.now c.in-None.is
    (if_new r
    (λ s. AddsAtByText old ts flat (string_bytes s.text))
    (λ s. AddsAtBytes old ts (view value) (string_bytes s.text))
    (λ s h. adds_value_at old (string_bytes s.text) ts flat (view value) reads h)
    c.add_at-in-None.ensures.bytes)
