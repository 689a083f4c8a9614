use Rattle.std.proofs.Common.{[], ◌∷◌, chars}
use Rattle.jsonptr_diagnostic.specs.Rendering.{label_line}
use Rattle.jsonptr_diagnostic.proofs.RenderingLemmas.{Adds-push, Adds-append, label_step}
use Rattle.jsonptr_diagnostic.proofs.rendering.push_labels.Goals as goal

pub loop-label-preserved : goal.loop-label-preserved
loop-label-preserved c =
    label_step (λ m. 10 ∷ label_line (chars c.args.text.now) m) c.args.labels.now c.loop-label.label-index c.label-item.result _ _ _ c.loop-label-test.true c.label-item.is
    (Adds-append (10 ∷ []) (label_line (chars c.args.text.now) c.label-item.result) _ _ _ (Adds-push 10 _ _ c.in_ok-push.ensures.bytes) c.in_ok-push_label.ensures)
    c.loop-label.invariant
