use Rattle.std.proofs.Common.{◌-◌, ◌<◌, length}
use Rattle.jsonptr_base.specs.Private.{IsValidBefore}
use Rattle.jsonptr_base.proofs.token.scan.skip_valid_blocks.Given as goal

abbrev pub invariant-loop-at : goal.invariant-loop-at
invariant-loop-at l = record { inside : l.at < length l.bytes; valid : IsValidBefore l.bytes l.at }

abbrev pub decreases-loop-at : goal.decreases-loop-at
decreases-loop-at l = length l.initial.bytes - l.at
