use Rattle.std.proofs.Common.{◌≡◌, ◌≤◌, ◌-◌, length, take}
use Rattle.jsonptr_c_calls.proofs.change.same_start.Given as goal

abbrev pub invariant-loop-n : goal.invariant-loop-n
invariant-loop-n l = (l.n ≤ length l.old) × (l.n ≤ length l.new) × (take l.n l.old ≡ take l.n l.new)

abbrev pub decreases-loop-n : goal.decreases-loop-n
decreases-loop-n l = length l.old - l.n
