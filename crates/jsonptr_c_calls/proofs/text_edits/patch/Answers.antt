use Rattle.std.proofs.Common.{Option, IfSome, refl, subst}
use Rattle.jsonptr_text_edit.specs.declared.edit.Edit.TheVariants as edits
use Rattle.jsonptr_c_calls.specs.OpenTexts.{IsEdited}
use Rattle.jsonptr_c_calls.specs.declared.change.Change.{Change}
use Rattle.jsonptr_c_calls.proofs.text_edits.patch.Goals as goal

pub returns-in-Some-clause-edited : goal.returns-in-Some-clause-edited
returns-in-Some-clause-edited c =
    let edit = edits.Patch c.args.patch in
    (edit, refl, subst (λ (o : Option Change). IfSome o (λ change. IsEdited c.args.text.now edit c.edit.new.self change)) c.in-Some.is c.in-Ok.ensures.edited)
