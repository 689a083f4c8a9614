use Rattle.std.proofs.Common.{sym, subst}
use Rattle.jsonptr.specs.Text.{Text}
use Rattle.jsonptr_text_edit.specs.Edited.{text_of, IfInPlace}
use Rattle.jsonptr_text_edit.specs.Edits.{EditsText, EditBytes}
use Rattle.jsonptr_text_edit.specs.declared.edited.Edited.{Edited}
use Rattle.jsonptr_uses.proofs.EditsInTextLemmas.{both_texts, both_bytes}
use Rattle.jsonptr_uses.proofs.edits_in_text.edit_both.Goals as goal

pub returns-in-InPlace-clause-meaning : goal.returns-in-InPlace-clause-meaning
returns-in-InPlace-clause-meaning c =
    let old = c.args.text.now in
    let first = c.args.first.now in
    both_texts c.edit_text-in-InPlace.result old c.as_str.result.now first c.args.second.now
    (subst (λ (t : Text). EditsText old first t) (sym c.as_str.ensures.value) (subst (λ (e : Edited). EditsText old first (text_of e)) c.in-InPlace.is c.in_ok-mid.ensures.edited))
    c.edit_text-in-InPlace.ensures.edited

pub returns-in-InPlace-clause-bytes : goal.returns-in-InPlace-clause-bytes
returns-in-InPlace-clause-bytes c =
    let old = c.args.text.now in
    let first = c.args.first.now in
    both_bytes c.edit_text-in-InPlace.result old c.as_str.result.now first c.args.second.now
    (subst (λ (t : Text). EditBytes old first t) (sym c.as_str.ensures.value) (subst (IfInPlace (EditBytes old first)) c.in-InPlace.is c.in_ok-mid.ensures.bytes))
    c.edit_text-in-InPlace.ensures.bytes
