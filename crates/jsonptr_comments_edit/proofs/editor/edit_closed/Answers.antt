use Rattle.std.proofs.lemmas.Result.{IfOk-weaker}
use Rattle.jsonptr_text_edit.specs.Edited.{text_of}
use Rattle.jsonptr_comments_edit.proofs.editor.edit_closed.Goals as goal

pub returns-in-Ok-clause-closed : goal.returns-in-Ok-clause-closed
returns-in-Ok-clause-closed c = IfOk-weaker c.edit_commented.result _ _ (λ e h. ((c.bare_law.ensures (text_of e) h.1).1 h.3).1) c.edit_commented.ensures.edited
