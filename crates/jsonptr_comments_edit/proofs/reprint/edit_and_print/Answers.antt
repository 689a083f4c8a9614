use Rattle.std.proofs.Common.{string_bytes, subst}
use Rattle.jsonptr_text_edit.specs.Edited.{text_of}
use Rattle.jsonptr_text_edit.specs.Edits.{EditsText}
use Rattle.jsonptr_text_edit.specs.declared.edited.Edited.{Edited}
use Rattle.jsonptr_text_edit.proofs.EditLemmas.{edits_same}
use Rattle.jsonptr_comments_edit.proofs.reprint.edit_and_print.Goals as goal

pub returns-in_ok-printed-in-InPlace-clause-edited : goal.returns-in_ok-printed-in-InPlace-clause-edited
returns-in_ok-printed-in-InPlace-clause-edited c =
    let edited = subst (λ (e : Edited). EditsText c.args.text.now c.args.edit.now (text_of e)) c.in-InPlace.is c.in_ok-new.ensures.edited in
    edits_same c.args.text.now c.args.edit.now (string_bytes c.in-InPlace.new) (string_bytes c.in_ok-printed-in-InPlace.field-0) (rw c.as_str.ensures.value at c.in_ok-printed-in-InPlace.ensures) edited
