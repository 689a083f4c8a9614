use Rattle.std.proofs.Common.{refl}
use Rattle.serde_json.specs.View.{view}
use Rattle.jsonptr.specs.Json.{nodes}
use Rattle.jsonptr.specs.Pointer.{tokens}
use Rattle.jsonptr_uses.proofs.NextLemmas.{next_named}
use Rattle.jsonptr_uses.proofs.cursor_editor.CursorEditor.next.Goals as goal

pub returns-in-Some-clause-at_value : goal.returns-in-Some-clause-at_value
returns-in-Some-clause-at_value c =
    let next = rw c.document.ensures at rw c.in-Some.is at c.in_ok-next.ensures in
    λ _. next_named (nodes (view c.args.self.now.editor.document)) (tokens c.as_ptr.result) c.in-Some.next (c.json_law.ensures.tree (view c.args.self.now.editor.document)) next

pub returns-in-None-clause-moved : goal.returns-in-None-clause-moved
returns-in-None-clause-moved c =
    let none = rw c.in-None.is at c.in_ok-next.ensures in
    (rw (c.document.ensures, c.as_ptr.ensures.tokens) at none, refl)
