use Rattle.std.proofs.Common.{List, ◌∷◌, ◌++◌, [], IfOk, IfSome, string_bytes, sym, subst}
use Rattle.jsonptr.specs.Text.{Text}
use Rattle.jsonptr.specs.Pointer.{tokens}
use Rattle.jsonptr_text_step.specs.Steps.{AddsInText, AddsAtByText, ReplacesByText}
use Rattle.jsonptr_text_step.specs.PrivateReaching.{ReachedInText, Becomes, AddsByText}
use Rattle.jsonptr_text_step.proofs.BytesLemmas.{adds_child_at, adds_there_at}
use Rattle.jsonptr_text_step.proofs.EditLemmas.{if_new}
use Rattle.jsonptr_text_step.proofs.OperatingLemmas.{adds_root}
use Rattle.jsonptr_text_step.proofs.add.add_at.Goals as goal

pub returns-in-None-clause-added : goal.returns-in-None-clause-added
returns-in-None-clause-added c =
    let old = c.args.text.now in
    let ts = tokens c.args.pointer in
    let flat = string_bytes c.args.printed.now.flat in
    if_new c.replace_at.result
    (λ s. ReachedInText old (string_bytes s.text) ts (Becomes flat))
    (λ s. AddsInText old ts flat (string_bytes s.text))
    (λ s h. adds_root old (string_bytes s.text) ts flat c.in-None.ensures h)
    c.replace_at.ensures.reached

pub returns-in-None-clause-bytes : goal.returns-in-None-clause-bytes
returns-in-None-clause-bytes c =
    let old = c.args.text.now in
    let ts = tokens c.args.pointer in
    let flat = string_bytes c.args.printed.now.flat in
    if_new c.replace_at.result
    (λ s. ReplacesByText old (string_bytes s.text) ts flat)
    (λ s. AddsAtByText old ts flat (string_bytes s.text))
    (λ s h. adds_there_at old (string_bytes s.text) ts flat h)
    c.replace_at.ensures.bytes

pub returns-then-eq-clause-bytes : goal.returns-then-eq-clause-bytes
returns-then-eq-clause-bytes c =
    let old = c.args.text.now in
    let front = tokens c.in-Some.front in
    let x = c.in-Some.token in
    let flat = string_bytes c.args.printed.now.flat in
    subst (λ (ts : List Text). IfOk c.add_new.result (λ n. IfSome n (λ s. AddsAtByText old ts flat (string_bytes s.text)))) (sym c.in-Some.ensures)
    (if_new c.add_new.result
    (λ s. AddsByText old (string_bytes s.text) front x flat)
    (λ s. AddsAtByText old (front ++ x ∷ []) flat (string_bytes s.text))
    (λ s h. adds_child_at old (string_bytes s.text) front x flat h)
    c.add_new.ensures.bytes)

pub returns-then-place-len-clause-bytes : goal.returns-then-place-len-clause-bytes
returns-then-place-len-clause-bytes c =
    subst (λ (ts : List Text). IfOk c.replace_member.result (λ n. IfSome n (λ s. AddsAtByText c.args.text.now ts (string_bytes c.args.printed.now.flat) (string_bytes s.text)))) (sym c.in-Some.ensures)
    c.replace_member.ensures.bytes
