use Rattle.std.proofs.Common.{[], ◌∷◌, ◌++◌, Option, String, None, IfSome, string_bytes, subst}
use Rattle.std.specs.declared.alloc.Global.{Global}
use Rattle.jsonptr.specs.Text.{Text}
use Rattle.jsonptr.specs.Pointer.{tokens}
use Rattle.jsonptr_text_check.specs.declared.change.Change.TheVariants as change
use Rattle.jsonptr_text_check.specs.Editing.{Makes}
use Rattle.jsonptr_text_step.specs.PrivateReaching.{ReachedInText, AddsPieceByText}
use Rattle.jsonptr_text_step.specs.PrivateOperating.{ElementInserted}
use Rattle.jsonptr_text_step.proofs.ReachingLemmas.{reached_so}
use Rattle.jsonptr_text_step.proofs.BytesLemmas.{element_inserted, adds_new_element}
use Rattle.jsonptr_text_step.proofs.insert.insert.Goals as goal

pub returns-clause-reached : goal.returns-clause-reached
returns-clause-reached c =
    let old = c.args.site.now.text.now in
    let new = string_bytes c.in-Some-2.text in
    let front = tokens c.args.site.now.pointer in
    let x = c.args.token.now in
    let flat = string_bytes c.args.printed.now.flat in
    let child = c.in_ok-child.child in
    let made = subst (λ (o : Option (String Global)). IfSome o (λ s. ReachedInText old (string_bytes s) front (Makes (change.Insert child)))) c.in-Some-2.is c.in_ok-text.ensures.reached in
    let reached = reached_so old new front (Makes (change.Insert child)) (ElementInserted x flat) (λ d d2 m. element_inserted child x flat d d2 c.in_ok-child.ensures.selects c.in_ok-child.ensures.value m) made in
    reached

pub returns-clause-bytes : goal.returns-clause-bytes
returns-clause-bytes c =
    let old = c.args.site.now.text.now in
    let new = string_bytes c.in-Some-2.text in
    let front = tokens c.args.site.now.pointer in
    let x = c.args.token.now in
    let flat = string_bytes c.args.printed.now.flat in
    let child = c.in_ok-child.child in
    let made = subst (λ (o : Option (String Global)). IfSome o (λ s. ReachedInText old (string_bytes s) front (Makes (change.Insert child)))) c.in-Some-2.is c.in_ok-text.ensures.reached in
    let reached = reached_so old new front (Makes (change.Insert child)) (ElementInserted x flat) (λ d d2 m. element_inserted child x flat d d2 c.in_ok-child.ensures.selects c.in_ok-child.ensures.value m) made in
    let put = subst (λ (o : Option (String Global)). IfSome o (λ s. AddsPieceByText old (string_bytes s) (front ++ x ∷ []) None c.as_str.result.now)) c.in-Some-2.is c.in_ok-text.ensures.bytes in
    adds_new_element old new front x flat reached
    (subst (λ (f : Text). AddsPieceByText old new (front ++ x ∷ []) None f) c.as_str.ensures.value put)
