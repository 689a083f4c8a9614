use Rattle.std.proofs.Common.{◌≡◌, ℕ, ◌-◌, ◌<◌, slice_index}
use Rattle.jsonptr_syntax.proofs.compare.common_len_by_blocks.Given as goal

abbrev pub invariant-loop-at : goal.invariant-loop-at
invariant-loop-at l = (k : ℕ) → k < l.at → slice_index l.bytes k ≡ slice_index l.other k

abbrev pub decreases-loop-at : goal.decreases-loop-at
decreases-loop-at l = l.initial.last - l.at
