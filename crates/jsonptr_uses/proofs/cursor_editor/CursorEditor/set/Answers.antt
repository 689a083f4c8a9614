use Rattle.std.proofs.lemmas.Result.{IfOk-weaker}
use Rattle.serde_json.specs.View.{view}
use Rattle.jsonptr.specs.Json.{nodes}
use Rattle.jsonptr.specs.Pointer.{tokens}
use Rattle.jsonptr_uses.proofs.EditingLemmas.{named_assigned, put_there, set_named, same_nodes}
use Rattle.jsonptr_uses.proofs.cursor_editor.CursorEditor.set.Goals as goal

pub returns-clause-written : goal.returns-clause-written
returns-clause-written c = IfOk-weaker c.assign.result _ _
    (λ _ done stands. put_there (nodes (view c.args.self.now.editor.document)) (tokens c.as_ptr.result) c.args.self.now.cursor (nodes (view c.args.value)) (nodes (view c.assign.new.self.document)) done.0 c.as_ptr.ensures.tokens done.1 stands)
    c.assign.ensures.assigned

pub returns-clause-at_value : goal.returns-clause-at_value
returns-clause-at_value c =
    let n = nodes (view c.args.self.now.editor.document) in
    let m = nodes (view c.assign.new.self.document) in
    set_named c.assign.result n m (nodes (view c.args.value)) (tokens c.as_ptr.result) c.args.self.now.cursor c.as_ptr.ensures.tokens c.assign.ensures.assigned
    (same_nodes c.assign.result c.assign.new.self.document c.args.self.now.editor.document c.assign.ensures.unchanged)
    (c.json_law.ensures.tree (view c.args.value)).root

pub returns-clause-never_refused : goal.returns-clause-never_refused
returns-clause-never_refused c = named_assigned c.assign.result (nodes (view c.args.self.now.editor.document)) (tokens c.as_ptr.result) c.args.self.now.cursor c.as_ptr.ensures.tokens c.assign.ensures.refused
