use Rattle.std.proofs.Common.{◌-◌, ◌≤◌, length}
use Rattle.jsonptr_comments.specs.PrivateStepping.{Read}
use Rattle.jsonptr_comments.proofs.comments.plain_end.Given as goal

abbrev pub invariant-loop-at : goal.invariant-loop-at
invariant-loop-at l = record {
  read : Read l.text l.text l.at;
  within : l.at ≤ length l.text;
}

abbrev pub decreases-loop-at : goal.decreases-loop-at
decreases-loop-at l = length l.text - l.at
