use Rattle.std.proofs.Common.{length}
use Rattle.jsonptr_fragment.proofs.UnitLemmas.{IsLeft}
use Rattle.jsonptr_fragment.proofs.units.first_fault.Given as goal

abbrev pub invariant-loop-byte : goal.invariant-loop-byte
invariant-loop-byte l = IsLeft l.fragment l.left

abbrev pub decreases-loop-byte : goal.decreases-loop-byte
decreases-loop-byte l = length l.left
