use Rattle.std.proofs.lemmas.Result.{IfOk-weaker}
use Rattle.serde_json.specs.View.{view}
use Rattle.jsonptr_uses.proofs.patches.changed_and_undone.Goals as goal

pub returns-clause-same : goal.returns-clause-same
returns-clause-same c = IfOk-weaker c.undo.result _ _
    (λ _ same all a. same (view c.args.document.now) c.in_ok-inverse.ensures.inverse a (c.in_ok-inverse.ensures.sorted all a) (c.in_ok-inverse.ensures.inverse_sorted all a))
    c.undo.ensures.same
