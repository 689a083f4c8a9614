use Rattle.std.proofs.Common.{◌≡◌, [], ◌∷◌, ◌++◌, Option, Some, None, IfSome, string_bytes, subst}
use Rattle.serde_json.specs.Data.{Data}
use Rattle.serde_json.specs.Read.{read}
use Rattle.jsonptr.specs.Text.{Text}
use Rattle.jsonptr.specs.Pointer.{tokens}
use Rattle.jsonptr_text_search.specs.Search.{choice_of}
use Rattle.jsonptr_text_check.specs.Editing.{AddsElement}
use Rattle.jsonptr_text_step.specs.declared.remove.Shorter.{Shorter}
use Rattle.jsonptr_text_step.specs.Bytes.{CutsBytes}
use Rattle.jsonptr_text_step.specs.PrivateReaching.{ReachedInText}
use Rattle.jsonptr_text_step.proofs.RemoveLemmas.{deletes_element}
use Rattle.jsonptr_text_step.proofs.BytesLemmas.{cuts_element}
use Rattle.jsonptr_text_step.proofs.remove.cut_element.Goals as goal

pub returns-then-branch-clause-deleted : goal.returns-then-branch-clause-deleted
returns-then-branch-clause-deleted c =
    let old = c.args.site.now.text.now in
    let new = string_bytes c.in-Some-2.new.text in
    let front = tokens c.args.site.now.pointer in
    let value = string_bytes c.in_ok-from_str.field-0 in
    let w = choice_of c.in_ok-selector_of.field-0 in
    deletes_element old new value front c.args.token.now w c.in_ok-selector_of.ensures
    (subst (λ (t : Text). ReachedInText t old front (λ at at2. (e : Data) × (read value ≡ Some e) × AddsElement w e at at2)) c.as_str.ensures.value (c.in_ok-is_changed_at.ensures c.if-branch.true))

pub returns-then-branch-clause-bytes : goal.returns-then-branch-clause-bytes
returns-then-branch-clause-bytes c =
    let old = c.args.site.now.text.now in
    let new = string_bytes c.in-Some-2.new.text in
    let front = tokens c.args.site.now.pointer in
    let value = c.slice-value.result.now in
    let w = choice_of c.in_ok-selector_of.field-0 in
    cuts_element old new value front c.args.token.now w c.in_ok-selector_of.ensures
    (subst (λ (v : Text). ReachedInText new old front (λ at at2. (e : Data) × (read v ≡ Some e) × AddsElement w e at at2)) c.in_ok-from_str.ensures.ok
    (subst (λ (t : Text). ReachedInText t old front (λ at at2. (e : Data) × (read (string_bytes c.in_ok-from_str.field-0) ≡ Some e) × AddsElement w e at at2)) c.as_str.ensures.value (c.in_ok-is_changed_at.ensures c.if-branch.true)))
    (subst (λ (o : Option Shorter). IfSome o (λ s. (v : Data) × (read value ≡ Some v) × CutsBytes old (string_bytes s.text) (front ++ c.args.token.now ∷ []) None v)) c.in-Some-2.is c.in_ok-new.ensures)
