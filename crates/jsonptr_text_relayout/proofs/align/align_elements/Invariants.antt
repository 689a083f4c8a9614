use Rattle.std.proofs.Common.{◌≤◌, ◌+◌, length}
use Rattle.jsonptr_text_relayout.proofs.align.align_elements.Given as goal

abbrev pub invariant-steps : goal.invariant-steps
invariant-steps l = (length l.left ≤ length l.old) × (length l.right ≤ length l.new)

abbrev pub decreases-steps : goal.decreases-steps
decreases-steps l = length l.left + length l.right
