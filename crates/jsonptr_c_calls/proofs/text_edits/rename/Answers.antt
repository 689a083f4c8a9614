use Rattle.std.proofs.Common.{Option, IfSome, inr, refl, subst}
use Rattle.jsonptr_text_edit.specs.declared.edit.Edit.TheVariants as edits
use Rattle.jsonptr_c_calls.specs.OpenTexts.{IsEdited}
use Rattle.jsonptr_c_calls.specs.declared.change.Change.{Change}
use Rattle.jsonptr_c_calls.proofs.text_edits.rename.Goals as goal

pub returns-in-Some-clause-edited : goal.returns-in-Some-clause-edited
returns-in-Some-clause-edited c =
    let edit = edits.Rename c.in_ok-parse.field-0 c.args.key in
    (edit, (c.in_ok-parse.ensures.pointer, refl), subst (λ (o : Option Change). IfSome o (λ change. IsEdited c.args.text.now edit c.edit.new.self change)) c.in-Some.is c.in-Ok.ensures.edited)

pub returns-clause-refused : goal.returns-clause-refused
returns-clause-refused c =
    let edit = edits.Rename c.in_ok-parse.field-0 c.args.key in
    inr (edit, c.in_ok-parse.ensures.utf8, (c.in_ok-parse.ensures.pointer, refl), c.in-Err.ensures.refused)
