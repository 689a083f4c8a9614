use Rattle.std.proofs.Common.{◌≤◌, ◌-◌}
use Rattle.jsonptr_comments.proofs.PartLemmas.{HaveRun}
use Rattle.jsonptr_comments.proofs.piece.have_common_ends.Given as goal

abbrev pub invariant-loop-at : goal.invariant-loop-at
invariant-loop-at l = record {
  run : HaveRun l.text l.other l.at;
  within : l.at ≤ l.end;
}

abbrev pub decreases-loop-at : goal.decreases-loop-at
decreases-loop-at l = l.end - l.at
