use Rattle.std.proofs.Common.{◌≡◌, ◌≤◌, drop, length}
use Rattle.jsonptr_c_calls.proofs.change.same_ends.Given as goal

abbrev pub invariant-loop-i : goal.invariant-loop-i
invariant-loop-i l =
    (l.start ≤ l.i) × (l.i ≤ length l.old) × (l.start ≤ l.j) × (l.j ≤ length l.new) × (drop l.i l.old ≡ drop l.j l.new)

abbrev pub decreases-loop-i : goal.decreases-loop-i
decreases-loop-i l = l.i
