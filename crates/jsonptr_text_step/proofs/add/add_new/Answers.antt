use Rattle.std.proofs.Common.{[], ◌∷◌, ◌++◌, string_bytes}
use Rattle.jsonptr.specs.Pointer.{tokens}
use Rattle.jsonptr_text_step.specs.Steps.{AddsInText}
use Rattle.jsonptr_text_step.specs.PrivateReaching.{ReachedInText, MemberAdded, ElementAppended}
use Rattle.jsonptr_text_step.specs.PrivateOperating.{ElementInserted}
use Rattle.jsonptr_text_step.proofs.EditLemmas.{if_new}
use Rattle.jsonptr_text_step.proofs.OperatingLemmas.{adds_member, adds_last, adds_element}
use Rattle.jsonptr_text_step.proofs.add.add_new.Goals as goal

pub returns-then-starts_with-clause-added : goal.returns-then-starts_with-clause-added
returns-then-starts_with-clause-added c =
    let old = c.args.site.now.text.now in
    let front = tokens c.args.site.now.pointer in
    let x = c.args.token.now in
    let flat = string_bytes c.args.printed.now.flat in
    if_new c.add_member.result
    (λ s. ReachedInText old (string_bytes s.text) front (MemberAdded x flat))
    (λ s. AddsInText old (front ++ x ∷ []) flat (string_bytes s.text))
    (λ s h. adds_member old (string_bytes s.text) front x flat h)
    c.add_member.ensures.reached

pub returns-then-is_next-clause-added : goal.returns-then-is_next-clause-added
returns-then-is_next-clause-added c =
    let old = c.args.site.now.text.now in
    let front = tokens c.args.site.now.pointer in
    let x = c.args.token.now in
    let flat = string_bytes c.args.printed.now.flat in
    if_new c.append.result
    (λ s. ReachedInText old (string_bytes s.text) front (ElementAppended x flat))
    (λ s. AddsInText old (front ++ x ∷ []) flat (string_bytes s.text))
    (λ s h. adds_last old (string_bytes s.text) front x flat h)
    c.append.ensures.reached

pub returns-else-is_next-clause-added : goal.returns-else-is_next-clause-added
returns-else-is_next-clause-added c =
    let old = c.args.site.now.text.now in
    let front = tokens c.args.site.now.pointer in
    let x = c.args.token.now in
    let flat = string_bytes c.args.printed.now.flat in
    if_new c.insert.result
    (λ s. ReachedInText old (string_bytes s.text) front (ElementInserted x flat))
    (λ s. AddsInText old (front ++ x ∷ []) flat (string_bytes s.text))
    (λ s h. adds_element old (string_bytes s.text) front x flat h)
    c.insert.ensures.reached
