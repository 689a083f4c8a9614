use Rattle.std.proofs.Common.{List, subst}
use Rattle.serde_json.specs.View.{view}
use Rattle.jsonptr.specs.Text.{Text}
use Rattle.jsonptr.specs.Json.{nodes}
use Rattle.jsonptr.specs.Pointer.{tokens}
use Rattle.jsonptr.specs.Removing.{Deletes}
use Rattle.serde_json.specs.Data.{null}
use Rattle.jsonptr_uses.proofs.RemovingLemmas.{named_not_refused, parent_named}
use Rattle.jsonptr_uses.proofs.cursor_editor.CursorEditor.remove.Goals as goal

pub returns-in_err-remove-clause-never_refused : goal.returns-in_err-remove-clause-never_refused
returns-in_err-remove-clause-never_refused c =
    named_not_refused c.from_residual-in_err-remove.result c.remove.result c.in_err-remove.field-0.0 (nodes (view c.args.self.now.editor.document)) (tokens c.as_ptr-2.result) c.args.self.now.cursor c.as_ptr-2.ensures.tokens c.in_err-remove.was c.remove.ensures.refused c.from_residual-in_err-remove.ensures.1

pub returns-clause-at_value : goal.returns-clause-at_value
returns-clause-at_value c =
    let n = nodes (view c.args.self.now.editor.document) in
    let m = nodes (view c.remove.new.self.document) in
    let gone = subst (λ (l : List Text). Deletes n l (nodes null) m) c.as_ptr-2.ensures.tokens c.in_ok-remove.ensures.deleted in
    parent_named n m c.args.self.now.cursor (tokens c.as_ptr.result) (tokens c.above.result) c.in_ok-parent.parent c.as_ptr.ensures.tokens c.above.ensures c.in_ok-parent.ensures gone
