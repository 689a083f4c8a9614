use Rattle.std.proofs.Common.{◌≡◌, ◌∷◌, ◌++◌, Option, IfSome, string_bytes, refl, subst}
use Rattle.jsonptr.specs.Pointer.{tokens}
use Rattle.jsonptr.specs.Json.{nodes}
use Rattle.jsonptr_text_layout.specs.declared.value_text.ValueText.{ValueText}
use Rattle.jsonptr_text_step.specs.EditInText.{AssignsInText}
use Rattle.jsonptr_text_value.specs.Wrapping.{IsExpanded}
use Rattle.jsonptr_text_step.specs.PrivateReaching.{ReachedInText, MemberAdded, ElementAppended}
use Rattle.jsonptr_text_step.proofs.EditLemmas.{if_new, of_member, assigns_member, of_element, assigns_end}
use Rattle.jsonptr_text_step.specs.PrivateGiving.{AddsWith}
use Rattle.jsonptr_text_step.specs.PrivateReaching.{AddsByText}
use Rattle.json.specs.Lex.{tokens as lexed}
use Rattle.jsonptr_text_value.specs.Raw.{value_of_raw}
use Rattle.jsonptr_text_value.specs.Wrapping.{wrapped}
use Rattle.jsonptr_text_step.proofs.BytesLemmas.{adds_expanded_bytes}
use Rattle.jsonptr_text_step.proofs.assign.assign_child.Goals as goal

pub returns-then-starts_with-clause-assigned : goal.returns-then-starts_with-clause-assigned
returns-then-starts_with-clause-assigned c =
    let flat = string_bytes c.in-Some.printed.flat in
    let e = subst (λ (o : Option ValueText). IfSome o (IsExpanded (tokens c.args.missing.now.after) (nodes (value_of_raw c.args.raw.now)))) c.in-Some.is c.in_ok-printed.ensures.value in
    let front = tokens c.args.site.now.pointer in
    let x = c.args.missing.now.token.now in
    let after = tokens c.args.missing.now.after in
    if_new c.add_member.result
    (λ s. ReachedInText c.args.site.now.text.now (string_bytes s.text) front (MemberAdded x flat))
    (λ s. AssignsInText c.args.site.now.text.now (front ++ x ∷ after) (nodes (value_of_raw c.args.raw.now)) (string_bytes s.text))
    (λ s h. assigns_member c.args.site.now.text.now (string_bytes s.text) (front ++ x ∷ after) front x after e.0 (nodes (value_of_raw c.args.raw.now)) refl e.2 (of_member c.args.site.now.text.now (string_bytes s.text) front x flat e.0 e.1 h))
    c.add_member.ensures.reached

pub returns-then-starts_with-clause-bytes : goal.returns-then-starts_with-clause-bytes
returns-then-starts_with-clause-bytes c =
    let old = c.args.site.now.text.now in
    let flat = string_bytes c.in-Some.printed.flat in
    let raw = c.args.raw.now in
    let front = tokens c.args.site.now.pointer in
    let x = c.args.missing.now.token.now in
    let after = tokens c.args.missing.now.after in
    let e = subst (λ (o : Option ValueText). IfSome o (IsExpanded after (nodes (value_of_raw raw)))) c.in-Some.is c.in_ok-printed.ensures.value in
    let same = subst (λ (o : Option ValueText). IfSome o (λ t. lexed (string_bytes t.flat) ≡ wrapped after (lexed (string_bytes raw.printed.flat)))) c.in-Some.is c.in_ok-printed.ensures.same in
    if_new c.add_member.result
    (λ s. AddsByText old (string_bytes s.text) front x flat)
    (λ s. AddsWith raw old (string_bytes s.text) front x after)
    (λ s h. adds_expanded_bytes old (string_bytes s.text) front x after flat raw e.0 e.1 e.2 same h)
    c.add_member.ensures.bytes

pub returns-clause-assigned : goal.returns-clause-assigned
returns-clause-assigned c =
    let flat = string_bytes c.in-Some.printed.flat in
    let e = subst (λ (o : Option ValueText). IfSome o (IsExpanded (tokens c.args.missing.now.after) (nodes (value_of_raw c.args.raw.now)))) c.in-Some.is c.in_ok-printed.ensures.value in
    let front = tokens c.args.site.now.pointer in
    let x = c.args.missing.now.token.now in
    let after = tokens c.args.missing.now.after in
    if_new c.append.result
    (λ s. ReachedInText c.args.site.now.text.now (string_bytes s.text) front (ElementAppended x flat))
    (λ s. AssignsInText c.args.site.now.text.now (front ++ x ∷ after) (nodes (value_of_raw c.args.raw.now)) (string_bytes s.text))
    (λ s h. assigns_end c.args.site.now.text.now (string_bytes s.text) (front ++ x ∷ after) front x after e.0 (nodes (value_of_raw c.args.raw.now)) refl e.2 (of_element c.args.site.now.text.now (string_bytes s.text) front x flat e.0 e.1 h))
    c.append.ensures.reached

pub returns-clause-bytes : goal.returns-clause-bytes
returns-clause-bytes c =
    let old = c.args.site.now.text.now in
    let flat = string_bytes c.in-Some.printed.flat in
    let raw = c.args.raw.now in
    let front = tokens c.args.site.now.pointer in
    let x = c.args.missing.now.token.now in
    let after = tokens c.args.missing.now.after in
    let e = subst (λ (o : Option ValueText). IfSome o (IsExpanded after (nodes (value_of_raw raw)))) c.in-Some.is c.in_ok-printed.ensures.value in
    let same = subst (λ (o : Option ValueText). IfSome o (λ t. lexed (string_bytes t.flat) ≡ wrapped after (lexed (string_bytes raw.printed.flat)))) c.in-Some.is c.in_ok-printed.ensures.same in
    if_new c.append.result
    (λ s. AddsByText old (string_bytes s.text) front x flat)
    (λ s. AddsWith raw old (string_bytes s.text) front x after)
    (λ s h. adds_expanded_bytes old (string_bytes s.text) front x after flat raw e.0 e.1 e.2 same h)
    c.append.ensures.bytes
