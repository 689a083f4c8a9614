use Rattle.std.proofs.Common.{List, subst}
use Rattle.jsonptr_text_value.specs.declared.raw_operation.RawOperation.{RawOperation}
use Rattle.jptr_tasks.specs.Reprinting.{LosesAt}
use Rattle.jptr_tasks.proofs.reprint.given_loss.Goals as goal

pub returns-in-Some-2 : goal.returns-in-Some-2
returns-in-Some-2 c =
    rw c.in-Patch.is
    (subst (λ (l : List RawOperation). LosesAt l c.in-Some-2.index c.in-Some-2.lost) c.as_slice.ensures.value (rw c.in-Some-2.is at c.in_ok-index-in-Patch.ensures))
