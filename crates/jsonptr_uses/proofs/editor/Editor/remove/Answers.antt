use Rattle.std.proofs.Common.{List, ap, ◌∙◌, ◌++◌, ◌∷◌, []}
use Rattle.serde_json.specs.View.{view}
use Rattle.serde_json.specs.declared.value.Value.{Value}
use Rattle.jsonptr_session.specs.declared.undo.Undo.{Undo}
use Rattle.jsonptr_uses.proofs.UndoingLemmas.{opened_push}
use Rattle.jsonptr_uses.proofs.editor.Editor.remove.Goals as goal

pub returns-clause-opened : goal.returns-clause-opened
returns-clause-opened c = λ start opened.
    opened_push start c.args.self.now _ c.in_ok-parent_back.parent_back
    (c.push_reserved.ensures.items ∙ ap (λ (us : List (Undo Value)). us ++ c.in_ok-parent_back.parent_back ∷ []) c.reserve.ensures.items)
    (c.in_ok-_removed.ensures.sorted opened.order)
    (c.in_ok-parent_back.ensures.leads (view c.delete.new.value) opened.order c.in_ok-_removed.ensures.deleted)
    opened
