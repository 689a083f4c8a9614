use Rattle.std.proofs.Common.{◌≡◌, ◌<◌, ◌≤◌, ◌-◌, ℕ, drop, length}
use Rattle.jsonptr_c_calls.specs.Changing.{IsBetween}
use Rattle.jsonptr_c_calls.proofs.change.character_ends.Given as goal

abbrev pub invariant-loop-i : goal.invariant-loop-i
invariant-loop-i l =
    (l.fn.ends.old ≤ l.i) × (l.i ≤ length l.old) × (l.fn.ends.new ≤ l.j) × (l.j ≤ length l.new)
    × (drop l.i l.old ≡ drop l.j l.new) × ((k : ℕ) → l.fn.ends.old ≤ k → k < l.i → IsBetween l.old k → ⊥)

abbrev pub decreases-loop-i : goal.decreases-loop-i
decreases-loop-i l = length l.old - l.i
