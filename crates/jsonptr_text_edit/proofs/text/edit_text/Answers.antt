use Rattle.jsonptr_text_step.specs.EditInText.{edited_text}
use Rattle.jsonptr_text_edit.specs.Edited.{text_of}
use Rattle.jsonptr_text_edit.proofs.EditLemmas.{edits_same}
use Rattle.jsonptr_text_edit.proofs.text.edit_text.Goals as goal

pub returns-clause-edited : goal.returns-clause-edited
returns-clause-edited c =
    edits_same c.args.text.now c.args.edit.now (edited_text c.in_ok-made.made) (text_of c.in_ok-on_one_line.field-0) c.in_ok-on_one_line.ensures.reads c.in_ok-made.ensures.edited
