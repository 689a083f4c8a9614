use Rattle.std.proofs.Common.{◌≤◌}
use Rattle.jsonptr_comments.proofs.BackLemmas.{IsWhite}
use Rattle.jsonptr_comments.proofs.back.solid_end.Given as goal

abbrev pub invariant-loop-end : goal.invariant-loop-end
invariant-loop-end l = record {
  within : l.end ≤ l.fn.at;
  white : IsWhite l.text l.end l.fn.at;
}

abbrev pub decreases-loop-end : goal.decreases-loop-end
decreases-loop-end l = l.end
