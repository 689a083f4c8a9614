use Rattle.std.proofs.Common.{◌-◌, ◌<◌, length}
use Rattle.jsonptr_syntax.specs.Private.{NoLooseTildeBefore}
use Rattle.jsonptr_syntax.proofs.scan.skip_valid_blocks.Given as goal

abbrev pub invariant-loop-at : goal.invariant-loop-at
invariant-loop-at l = record { inside : l.at < length l.bytes; none : NoLooseTildeBefore l.bytes l.at }

abbrev pub decreases-loop-at : goal.decreases-loop-at
decreases-loop-at l = length l.initial.bytes - l.at
