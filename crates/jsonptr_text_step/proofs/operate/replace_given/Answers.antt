use Rattle.std.proofs.Common.{◌≡◌, Option, Some, IfSome, string_bytes, ap, ◌∙◌, subst}
use Rattle.serde_json.specs.Data.{Data}
use Rattle.serde_json.specs.Read.{read}
use Rattle.serde_json.specs.View.{view}
use Rattle.jsonptr.specs.Pointer.{tokens}
use Rattle.jsonptr.specs.Json.{nodes}
use Rattle.jsonptr_text_layout.specs.declared.value_text.ValueText.{ValueText}
use Rattle.jsonptr_text_step.specs.Steps.{ReplacesByText}
use Rattle.jsonptr_text_step.specs.Bytes.{ReplacesBytes}
use Rattle.jsonptr_text_value.specs.Raw.{value_of_raw}
use Rattle.jsonptr_text_step.specs.PrivateOperating.{PutsInText}
use Rattle.jsonptr_text_step.specs.PrivateReaching.{ReachedInText, Becomes}
use Rattle.jsonptr_text_step.specs.RawPatching.{ReplacesGiven}
use Rattle.jsonptr_text_step.proofs.BytesLemmas.{replaces_given, replaces_value}
use Rattle.jsonptr_text_step.proofs.EditLemmas.{if_new}
use Rattle.jsonptr_text_step.proofs.OperatingLemmas.{puts}
use Rattle.jsonptr_text_step.proofs.RawLemmas.{text_is, replaces_some, replaces_none}
use Rattle.jsonptr_text_value.proofs.WrappingLemmas.{raw_reads}
use Rattle.jsonptr_text_step.proofs.operate.replace_given.Goals as goal

pub returns-in-Some-clause-put : goal.returns-in-Some-clause-put
returns-in-Some-clause-put c =
    let old = c.args.text.now in
    let ts = tokens c.args.pointer in
    let value = c.args.given.value.now in
    let raw = c.in-Some.raw in
    let is = text_is value c.args.given.raw.now raw c.in-Some.is c.requires in
    if_new c.replace_at.result
    (λ s. ReachedInText old (string_bytes s.text) ts (Becomes (string_bytes raw.printed.flat)))
    (λ s. PutsInText old ts (nodes (view value)) (string_bytes s.text))
    (λ s h. puts old (string_bytes s.text) ts (string_bytes raw.printed.flat) (view value) (raw_reads raw ∙ ap (λ (d : Data). Some d) is) h)
    c.replace_at.ensures.reached

pub returns-in-Some-clause-bytes : goal.returns-in-Some-clause-bytes
returns-in-Some-clause-bytes c =
    let r = c.replace_at.result in
    let old = c.args.text.now in
    let ts = tokens c.args.pointer in
    let raw = c.in-Some.raw in
    replaces_some r old ts c.args.given.value.now c.args.given.raw.now raw c.in-Some.is c.requires
    (if_new r
    (λ s. ReplacesByText old (string_bytes s.text) ts (string_bytes raw.printed.flat))
    (λ s. ReplacesGiven old ts (value_of_raw raw) (Some raw) (string_bytes s.text))
    (λ s h. replaces_given old (string_bytes s.text) ts raw h)
    c.replace_at.ensures.bytes)

pub returns-in-Some-2-clause-put : goal.returns-in-Some-2-clause-put
returns-in-Some-2-clause-put c =
    let old = c.args.text.now in
    let ts = tokens c.args.pointer in
    let v = view c.args.given.value.now in
    let flat = string_bytes c.in-Some-2.printed.flat in
    let reads = subst (λ (o : Option ValueText). IfSome o (λ t. read (string_bytes t.flat) ≡ Some v)) c.in-Some-2.is c.in_ok-printed-in-None.ensures in
    if_new c.replace_at-in-None.result
    (λ s. ReachedInText old (string_bytes s.text) ts (Becomes flat))
    (λ s. PutsInText old ts (nodes v) (string_bytes s.text))
    (λ s h. puts old (string_bytes s.text) ts flat v reads h)
    c.replace_at-in-None.ensures.reached

pub returns-in-Some-2-clause-bytes : goal.returns-in-Some-2-clause-bytes
returns-in-Some-2-clause-bytes c =
    let r = c.replace_at-in-None.result in
    let old = c.args.text.now in
    let ts = tokens c.args.pointer in
    let value = c.args.given.value.now in
    let flat = string_bytes c.in-Some-2.printed.flat in
    let reads = subst (λ (o : Option ValueText). IfSome o (λ t. read (string_bytes t.flat) ≡ Some (view value))) c.in-Some-2.is c.in_ok-printed-in-None.ensures in
    replaces_none r old ts value c.args.given.raw.now c.in-None.is
    (if_new r
    (λ s. ReplacesByText old (string_bytes s.text) ts flat)
    (λ s. ReplacesBytes old (string_bytes s.text) ts (view value))
    (λ s h. replaces_value old (string_bytes s.text) ts flat (view value) reads h)
    c.replace_at-in-None.ensures.bytes)
