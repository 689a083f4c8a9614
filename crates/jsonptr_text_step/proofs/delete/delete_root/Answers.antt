use Rattle.std.proofs.Common.{◌≡◌, Option, Some, IfSome, string_bytes, ap, ◌∙◌, subst}
use Rattle.serde_json.specs.Data.{Data}
use Rattle.serde_json.specs.Read.{read}
use Rattle.serde_json.specs.View.{view}
use Rattle.serde_json.specs.declared.value.Value.{Null}
use Rattle.jsonptr.specs.Pointer.{tokens}
use Rattle.jsonptr.specs.Json.{nodes}
use Rattle.jsonptr.specs.Content.{map_of}
use Rattle.jsonptr_tree.proofs.JsonLemmas.{null_is}
use Rattle.jsonptr_text_layout.specs.declared.value_text.ValueText.{ValueText}
use Rattle.jsonptr_text_step.specs.Steps.{ReplacesByText}
use Rattle.jsonptr_text_step.specs.EditInText.{DeletesInText}
use Rattle.jsonptr_text_step.specs.PrivateReaching.{ReachedInText, Becomes}
use Rattle.jsonptr_text_step.proofs.EditLemmas.{if_new, of_value}
use Rattle.jsonptr_text_step.proofs.RemoveLemmas.{deletes_root}
use Rattle.serde_json.specs.Data.{null}
use Rattle.jsonptr_text_step.specs.Bytes.{ReplacesBytes}
use Rattle.jsonptr_text_step.proofs.BytesLemmas.{replaces_value, null_seen}
use Rattle.jsonptr_text_step.proofs.delete.delete_root.Goals as goal

pub returns-clause-deleted : goal.returns-clause-deleted
returns-clause-deleted c = λ root.
    let flat = string_bytes c.in-Some.null.flat in
    if_new c.replace_at.result
    (λ s. ReachedInText c.args.text.now (string_bytes s.text) (tokens c.args.pointer) (Becomes flat))
    (λ s. DeletesInText c.args.text.now (tokens c.args.pointer) (string_bytes s.text))
    (λ s h. deletes_root c.args.text.now (string_bytes s.text) (tokens c.args.pointer) (nodes (view Null)) root (ap map_of null_is) (of_value c.args.text.now (string_bytes s.text) (tokens c.args.pointer) flat (view Null) (subst (λ (o : Option ValueText). IfSome o (λ t. read (string_bytes t.flat) ≡ Some (view Null))) c.in-Some.is c.in_ok-null.ensures) h))
    c.replace_at.ensures.reached

pub returns-clause-bytes : goal.returns-clause-bytes
returns-clause-bytes c =
    let old = c.args.text.now in
    let flat = string_bytes c.in-Some.null.flat in
    let ts = tokens c.args.pointer in
    if_new c.replace_at.result
    (λ s. ReplacesByText old (string_bytes s.text) ts flat)
    (λ s. ReplacesBytes old (string_bytes s.text) ts null)
    (λ s h. replaces_value old (string_bytes s.text) ts flat null (subst (λ (o : Option ValueText). IfSome o (λ t. read (string_bytes t.flat) ≡ Some (view Null))) c.in-Some.is c.in_ok-null.ensures ∙ ap (λ (d : Data). Some d) null_seen) h)
    c.replace_at.ensures.bytes
