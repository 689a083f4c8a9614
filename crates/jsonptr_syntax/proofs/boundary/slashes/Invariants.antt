use Rattle.std.proofs.Common.{◌≡◌, ◌+◌, ◌-◌, ◌≤◌, length, drop}
use Rattle.std.specs.Prelude.{count_by}
use Rattle.jsonptr_grammar.specs.Text.{is_slash}
use Rattle.jsonptr_syntax.proofs.boundary.slashes.Given as goal

abbrev pub invariant-loop-at : goal.invariant-loop-at
invariant-loop-at l = record {
  within : l.at ≤ length l.bytes;
  so_far : l.count + count_by is_slash (drop l.at l.bytes) ≡ count_by is_slash l.bytes;
}

abbrev pub decreases-loop-at : goal.decreases-loop-at
decreases-loop-at l = length l.initial.bytes - l.at
