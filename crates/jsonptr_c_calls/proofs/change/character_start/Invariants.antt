use Rattle.std.proofs.Common.{◌≡◌, ◌<◌, ◌≤◌, ℕ, take}
use Rattle.jsonptr_c_calls.specs.Changing.{IsBetween}
use Rattle.jsonptr_c_calls.proofs.change.character_start.Given as goal

abbrev pub invariant-loop-n : goal.invariant-loop-n
invariant-loop-n l = (l.n ≤ l.offset) × (take l.n l.old ≡ take l.n l.new)
    × ((k : ℕ) → l.n < k → k ≤ l.offset → IsBetween l.old k → IsBetween l.new k → ⊥)

abbrev pub decreases-loop-n : goal.decreases-loop-n
decreases-loop-n l = l.n
