use Rattle.std.proofs.Common.{◌≡◌, ◌∷◌, ◌++◌, List, Option, IfSome, string_bytes, refl, subst, ap, ◌∙◌}
use Rattle.jsonptr.specs.Text.{Text}
use Rattle.jsonptr.specs.Pointer.{tokens}
use Rattle.jsonptr.specs.Expansion.{expanded}
use Rattle.jsonptr.specs.Json.{nodes}
use Rattle.jsonptr_text_layout.specs.declared.value_text.ValueText.{ValueText}
use Rattle.jsonptr_text_step.specs.EditInText.{AssignsInText}
use Rattle.jsonptr_text_value.specs.Wrapping.{IsExpanded}
use Rattle.jsonptr_text_step.specs.PrivateReaching.{ReachedInText, ScalarBecomes}
use Rattle.jsonptr_text_step.proofs.EditLemmas.{if_new, of_scalar, assigns_scalar}
use Rattle.jsonptr_text_step.specs.PrivateGiving.{ExpandsWith}
use Rattle.jsonptr_text_step.specs.PrivateReaching.{ReplacesScalarByText}
use Rattle.json.specs.Lex.{tokens as lexed}
use Rattle.jsonptr_text_value.specs.Raw.{value_of_raw}
use Rattle.jsonptr_text_value.specs.Wrapping.{wrapped}
use Rattle.jsonptr_text_step.proofs.BytesLemmas.{expands}
use Rattle.jsonptr_text_step.proofs.assign.assign_scalar.Goals as goal

pub returns-clause-assigned : goal.returns-clause-assigned
returns-clause-assigned c = λ x after rest.
    let flat = string_bytes c.in-Some.printed.flat in
    let e = subst (λ (o : Option ValueText). IfSome o (IsExpanded (tokens c.args.rest) (nodes (value_of_raw c.args.raw.now)))) c.in-Some.is c.in_ok-printed.ensures.value in
    let front = tokens c.args.site.now.pointer in
    if_new c.replace_scalar.result
    (λ s. ReachedInText c.args.site.now.text.now (string_bytes s.text) front (ScalarBecomes flat))
    (λ s. AssignsInText c.args.site.now.text.now (front ++ x ∷ after) (nodes (value_of_raw c.args.raw.now)) (string_bytes s.text))
    (λ s h. assigns_scalar c.args.site.now.text.now (string_bytes s.text) (front ++ x ∷ after) front x after e.0 (nodes (value_of_raw c.args.raw.now)) refl (e.2 ∙ ap (λ (ts : List Text). expanded ts (nodes (value_of_raw c.args.raw.now))) rest) (of_scalar c.args.site.now.text.now (string_bytes s.text) front flat e.0 e.1 h))
    c.replace_scalar.ensures.reached

pub returns-clause-bytes : goal.returns-clause-bytes
returns-clause-bytes c =
    let old = c.args.site.now.text.now in
    let flat = string_bytes c.in-Some.printed.flat in
    let raw = c.args.raw.now in
    let more = tokens c.args.rest in
    let e = subst (λ (o : Option ValueText). IfSome o (IsExpanded more (nodes (value_of_raw raw)))) c.in-Some.is c.in_ok-printed.ensures.value in
    let same = subst (λ (o : Option ValueText). IfSome o (λ t. lexed (string_bytes t.flat) ≡ wrapped more (lexed (string_bytes raw.printed.flat)))) c.in-Some.is c.in_ok-printed.ensures.same in
    let front = tokens c.args.site.now.pointer in
    if_new c.replace_scalar.result
    (λ s. ReplacesScalarByText old (string_bytes s.text) front flat)
    (λ s. ExpandsWith raw old (string_bytes s.text) front more)
    (λ s h. expands old (string_bytes s.text) front more flat raw e.0 e.1 e.2 same h)
    c.replace_scalar.ensures.bytes
