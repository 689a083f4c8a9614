use Rattle.std.proofs.Common.{subst}
use Rattle.jsonptr.specs.Text.{Text}
use Rattle.jsonptr_comments_edit.specs.Closed.{IsClosed}
use Rattle.jsonptr_comments_edit.proofs.editor.TextEditor.new.Goals as goal

pub invariant_of-result : goal.invariant_of-result
invariant_of-result c = record { is_closed = subst (λ (t : Text). IsClosed t) c.as_str.ensures.value c.in_ok-check_closed.ensures.closed }
