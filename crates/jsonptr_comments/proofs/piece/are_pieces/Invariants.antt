use Rattle.std.proofs.Common.{◌≤◌, ◌-◌, drop, length}
use Rattle.jsonptr_comments.proofs.PartLemmas.{HasRun}
use Rattle.jsonptr_comments.proofs.piece.are_pieces.Given as goal

abbrev pub invariant-loop-at : goal.invariant-loop-at
invariant-loop-at l = record {
  run : HasRun l.allowed l.text (drop l.at l.text);
  within : l.at ≤ length l.text;
}

abbrev pub decreases-loop-at : goal.decreases-loop-at
decreases-loop-at l = length l.text - l.at
