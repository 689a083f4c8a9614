use Rattle.serde_json.specs.View.{view}
use Rattle.jsonptr.specs.Json.{nodes, HasSortedKeys}
use Rattle.jsonptr.proofs.Calling.{nodes_one}
use Rattle.jsonptr.specs.Documents.{json_map, json_blank}
use Rattle.jsonptr_session.specs.Undo.{Undoes}
use Rattle.jsonptr_session.proofs.UndoLemmas.{restored}
use Rattle.jsonptr_session.proofs.undo.json.assign_with_undo.Goals as goal

pub returns-clause-restores : goal.returns-clause-restores
returns-clause-restores c = restored nodes HasSortedKeys nodes_one (Undoes json_map json_blank (json_map c.assign_undoable.new.document)) (view c.args.doc.now) c.assign_undoable.result c.assign_undoable.ensures.inverse
