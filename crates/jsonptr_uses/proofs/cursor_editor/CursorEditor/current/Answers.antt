use Rattle.jsonptr.specs.Pointer.{tokens}
use Rattle.jsonptr_uses.proofs.EditingLemmas.{named_found}
use Rattle.jsonptr_uses.proofs.cursor_editor.CursorEditor.current.Goals as goal

pub returns-clause-never_refused : goal.returns-clause-never_refused
returns-clause-never_refused c = named_found c.resolve.result c.document.result.now c.args.self.now.editor.document (tokens c.as_ptr.result) c.args.self.now.cursor c.document.ensures c.as_ptr.ensures.tokens c.resolve.ensures.refused
