use Rattle.std.proofs.Common.{Option, IfSome, string_bytes, sym, subst}
use Rattle.jsonptr.specs.Text.{Text}
use Rattle.jsonptr.specs.Pointer.{tokens}
use Rattle.jsonptr_text_step.specs.Renaming.{RenamesInText, RenamesBytes}
use Rattle.jsonptr_text_step.specs.declared.plan.Made.{Made}
use Rattle.jsonptr_text_step.proofs.EditLemmas.{if_new}
use Rattle.jsonptr_comments_step.proofs.StepLemmas.{renamed_becomes, renamed_bytes}
use Rattle.jsonptr_comments_step.proofs.rename.renamed.Goals as goal

pub returns-clause-renamed : goal.returns-clause-renamed
returns-clause-renamed c =
    let bare = c.args.texts.bare.now in
    let path = tokens c.args.pointer in
    let key = c.args.key.now in
    let made = subst (λ (o : Option Made). IfSome o (λ m. RenamesInText bare path key (string_bytes m.text))) c.in-Some.is c.in_ok-made.ensures.stepped in
    let new = subst (λ (t : Text). RenamesInText bare path key t) (sym c.as_str.ensures.value) made in
    if_new c.put.result _ _ (λ s h. renamed_becomes _ _ _ _ path key c.requires new h) c.put.ensures

pub returns-clause-bytes : goal.returns-clause-bytes
returns-clause-bytes c =
    let bare = c.args.texts.bare.now in
    let path = tokens c.args.pointer in
    let key = c.args.key.now in
    let made = subst (λ (o : Option Made). IfSome o (λ m. RenamesBytes bare path key (string_bytes m.text))) c.in-Some.is c.in_ok-made.ensures.bytes in
    let new = subst (λ (t : Text). RenamesBytes bare path key t) (sym c.as_str.ensures.value) made in
    if_new c.put.result _ _ (λ s h. renamed_bytes _ _ _ _ path key c.requires new h) c.put.ensures

pub returns-clause-pieces : goal.returns-clause-pieces
returns-clause-pieces c = if_new c.put.result _ _ (λ s h. h.piece) c.put.ensures
