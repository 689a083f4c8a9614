use Rattle.toml.specs.View.{view}
use Rattle.jsonptr.specs.TomlValue.{nodes, HasSortedKeys}
use Rattle.jsonptr.proofs.TomlCalling.{nodes_one}
use Rattle.jsonptr.specs.Documents.{toml_map, toml_blank}
use Rattle.jsonptr_session.specs.Undo.{Undoes}
use Rattle.jsonptr_session.proofs.UndoLemmas.{restored}
use Rattle.jsonptr_session.proofs.undo.toml_value.assign_with_undo.Goals as goal

pub returns-clause-restores : goal.returns-clause-restores
returns-clause-restores c = restored nodes HasSortedKeys nodes_one (Undoes toml_map toml_blank (toml_map c.assign_undoable.new.document)) (view c.args.doc.now) c.assign_undoable.result c.assign_undoable.ensures.inverse
