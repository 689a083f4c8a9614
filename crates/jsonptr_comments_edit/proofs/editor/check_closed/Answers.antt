use Rattle.jsonptr_comments_edit.proofs.editor.check_closed.Goals as goal

pub returns-clause-closed : goal.returns-clause-closed
returns-clause-closed c = ((c.bare_law.ensures c.args.text.now _).1 c.in_ok-_read.ensures.without).1
