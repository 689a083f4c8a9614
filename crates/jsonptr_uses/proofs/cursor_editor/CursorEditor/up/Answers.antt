use Rattle.serde_json.specs.View.{view}
use Rattle.jsonptr.specs.Json.{nodes}
use Rattle.jsonptr_uses.proofs.EditingLemmas.{up_named}
use Rattle.jsonptr_uses.proofs.cursor_editor.CursorEditor.up.Goals as goal

pub returns-clause-at_value : goal.returns-clause-at_value
returns-clause-at_value c = up_named (nodes (view c.args.self.now.editor.document)) c.pop_back.result c.args.self.now.cursor c.pop_back.new.self c.pop_back.ensures.popped c.pop_back.ensures.unchanged
