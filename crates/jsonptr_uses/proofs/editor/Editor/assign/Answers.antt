use Rattle.std.proofs.Common.{List, ap, ◌∙◌, ◌++◌, ◌∷◌, []}
use Rattle.serde_json.specs.View.{view}
use Rattle.serde_json.specs.declared.value.Value.{Value}
use Rattle.jsonptr.specs.Json.{HasSortedKeys}
use Rattle.jsonptr_session.specs.declared.undo.Undo.{Undo}
use Rattle.jsonptr_uses.proofs.UndoingLemmas.{opened_push, if_put}
use Rattle.jsonptr_uses.proofs.editor.Editor.assign.Goals as goal

pub returns-clause-opened : goal.returns-clause-opened
returns-clause-opened c = λ start ascends opened.
    let made = c.in_ok-last.ensures in
    opened_push start c.args.self.now _ c.in_ok-last.last
    (c.push_reserved.ensures.items ∙ ap (λ (us : List (Undo Value)). us ++ c.in_ok-last.last ∷ []) c.reserve.ensures.items)
    (made.sorted ascends opened.order)
    (record {
      named = (made.assigned.assigned.path, made.assigned.landing);
      order = if_put (λ v. HasSortedKeys (view v)) c.in_ok-last.last made.returned_sorted opened.order;
      old_order = opened.order;
      gives = λ d undone order. made.restores d undone opened.order order;
    })
    opened
