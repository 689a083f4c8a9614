use Rattle.std.proofs.Common.{chars}
use Rattle.jsonptr_diagnostic.proofs.RenderingLemmas.{drawn_whole}
use Rattle.jsonptr_diagnostic.proofs.rendering.draw.Goals as goal

pub returns : goal.returns
returns c = drawn_whole (chars c.args.text.now) c.args.labels.now _ _ _ c.new-out.ensures.bytes c.in_ok-push_text.ensures c.in_ok-push_labels.ensures
