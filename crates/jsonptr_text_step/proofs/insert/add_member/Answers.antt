use Rattle.std.proofs.Common.{◌≡◌, [], ◌∷◌, ◌++◌, Option, String, Some, IfSome, string_bytes, ◌∙◌, subst}
use Rattle.std.specs.declared.alloc.Global.{Global}
use Rattle.jsonptr.specs.Text.{Text}
use Rattle.jsonptr.specs.Pointer.{tokens}
use Rattle.jsonptr_text_check.specs.declared.change.Change.TheVariants as change
use Rattle.jsonptr_text_check.specs.Editing.{Makes}
use Rattle.jsonptr_text_step.specs.PrivateReaching.{ReachedInText, MemberAdded, AddsPieceByText}
use Rattle.jsonptr_text_step.proofs.EditLemmas.{member_made}
use Rattle.jsonptr_text_step.proofs.ReachingLemmas.{reached_so}
use Rattle.jsonptr_text_step.proofs.BytesLemmas.{adds_new_member}
use Rattle.jsonptr_text_step.proofs.insert.add_member.Goals as goal

pub returns-clause-reached : goal.returns-clause-reached
returns-clause-reached c =
    let old = c.args.site.now.text.now in
    let new = string_bytes c.in-Some-2.text in
    let front = tokens c.args.site.now.pointer in
    let x = c.args.token.now in
    let flat = string_bytes c.args.printed.now.flat in
    let child = c.in_ok-child.child in
    let made = subst (λ (o : Option (String Global)). IfSome o (λ s. ReachedInText old (string_bytes s) front (Makes (change.Add child)))) c.in-Some-2.is c.in_ok-text.ensures.reached in
    let reached = reached_so old new front (Makes (change.Add child)) (MemberAdded x flat) (λ d d2 m. member_made child x flat d d2 c.in_ok-child.ensures.selects.key_is c.in_ok-child.ensures.value m) made in
    reached

pub returns-clause-bytes : goal.returns-clause-bytes
returns-clause-bytes c =
    let old = c.args.site.now.text.now in
    let new = string_bytes c.in-Some-2.text in
    let front = tokens c.args.site.now.pointer in
    let x = c.args.token.now in
    let flat = string_bytes c.args.printed.now.flat in
    let child = c.in_ok-child.child in
    let made = subst (λ (o : Option (String Global)). IfSome o (λ s. ReachedInText old (string_bytes s) front (Makes (change.Add child)))) c.in-Some-2.is c.in_ok-text.ensures.reached in
    let reached = reached_so old new front (Makes (change.Add child)) (MemberAdded x flat) (λ d d2 m. member_made child x flat d d2 c.in_ok-child.ensures.selects.key_is c.in_ok-child.ensures.value m) made in
    let named : c.as_str-2.result.now ≡ x = c.as_str-2.ensures.value ∙ c.in_ok-key.ensures.cases ∙ c.in_ok-child.ensures.selects.key_is in
    let put = subst (λ (o : Option (String Global)). IfSome o (λ s. AddsPieceByText old (string_bytes s) (front ++ x ∷ []) (Some c.as_str-2.result.now) c.as_str-3.result.now)) c.in-Some-2.is c.in_ok-text.ensures.bytes in
    adds_new_member old new front x flat reached
    (subst (λ (k : Text). AddsPieceByText old new (front ++ x ∷ []) (Some k) flat) named
    (subst (λ (f : Text). AddsPieceByText old new (front ++ x ∷ []) (Some c.as_str-2.result.now) f) c.as_str-3.ensures.value put))
