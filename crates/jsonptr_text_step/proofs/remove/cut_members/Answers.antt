use Rattle.std.proofs.Common.{◌≡◌, [], ◌∷◌, ◌++◌, List, Option, Some, String, IfSome, string_bytes, ◌∙◌, subst}
use Rattle.std.specs.declared.alloc.Global.{Global}
use Rattle.serde_json.specs.Data.{Data}
use Rattle.serde_json.specs.Read.{read}
use Rattle.jsonptr.specs.Text.{Text}
use Rattle.jsonptr.specs.Pointer.{tokens}
use Rattle.jsonptr_text_search.specs.Search.{choice_of}
use Rattle.jsonptr_text_check.specs.Editing.{AddsChosenMember}
use Rattle.jsonptr_text_step.specs.declared.remove.Shorter.{Shorter}
use Rattle.jsonptr_text_step.specs.Bytes.{CutsBytes, CutsInTurn}
use Rattle.jsonptr_text_step.specs.PrivateReaching.{ReachedInText}
use Rattle.jsonptr_text_step.proofs.RemoveLemmas.{deletes_member}
use Rattle.jsonptr_text_step.proofs.BytesLemmas.{cuts_members}
use Rattle.jsonptr_text_step.proofs.remove.cut_members.Goals as goal

pub returns-then-branch-clause-deleted : goal.returns-then-branch-clause-deleted
returns-then-branch-clause-deleted c =
    let old = c.args.site.now.text.now in
    let new = string_bytes c.in-Some-3.new in
    let front = tokens c.args.site.now.pointer in
    let value = string_bytes c.in_ok-from_str.field-0 in
    let w = choice_of c.in_ok-selector.selector in
    deletes_member old new value front c.args.token.now w c.in_ok-selector.ensures
    (subst (λ (t : Text). ReachedInText t old front (λ at at2. (e : Data) × (read value ≡ Some e) × AddsChosenMember w e at at2)) c.as_str.ensures.value (c.in_ok-is_changed_at.ensures c.if-branch.true))

pub returns-then-branch-clause-bytes : goal.returns-then-branch-clause-bytes
returns-then-branch-clause-bytes c =
    let old = c.args.site.now.text.now in
    let first = string_bytes c.in-Some-2.first.text in
    let new = string_bytes c.in-Some-3.new in
    let front = tokens c.args.site.now.pointer in
    let x = c.args.token.now in
    let value = c.slice-value.result.now in
    let w = choice_of c.in_ok-selector.selector in
    let named : c.as_str-key.result.now ≡ x = c.as_str-key.ensures.value ∙ c.in_ok-selector.ensures.key_is in
    cuts_members old first new value front x w c.in_ok-selector.ensures
    (subst (λ (v : Text). ReachedInText new old front (λ at at2. (e : Data) × (read v ≡ Some e) × AddsChosenMember w e at at2)) c.in_ok-from_str.ensures.ok
    (subst (λ (t : Text). ReachedInText t old front (λ at at2. (e : Data) × (read (string_bytes c.in_ok-from_str.field-0) ≡ Some e) × AddsChosenMember w e at at2)) c.as_str.ensures.value (c.in_ok-is_changed_at.ensures c.if-branch.true)))
    (subst (λ (k : Text). (v : Data) × (read value ≡ Some v) × CutsBytes old first (front ++ x ∷ []) (Some k) v) named
    (subst (λ (o : Option Shorter). IfSome o (λ s. (v : Data) × (read value ≡ Some v) × CutsBytes old (string_bytes s.text) (front ++ x ∷ []) (Some c.as_str-key.result.now) v)) c.in-Some-2.is c.in_ok-first.ensures))
    (subst (λ (o : Option (String Global)). IfSome o (λ s. (mids : List Text) × CutsInTurn front x first mids (string_bytes s))) c.in-Some-3.is (c.in_ok-new.ensures named))
