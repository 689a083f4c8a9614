use Rattle.std.proofs.Common.{chars}
use Rattle.jsonptr_diagnostic.proofs.RenderingLemmas.{label_written, OnOk-from}
use Rattle.jsonptr_diagnostic.proofs.rendering.push_label.Goals as goal

pub returns : goal.returns
returns c = OnOk-from c.push_text.result
    (label_written (chars c.args.text.now) c.args.label.now c.offset-offset.result c.len.result c.text.result.now _ _ _ _ _
    c.offset-offset.ensures c.len.ensures c.text.ensures
    c.in_ok-push_marks.ensures c.in_ok-push_carets.ensures c.in_ok-push.ensures.bytes)
    c.push_text.ensures
