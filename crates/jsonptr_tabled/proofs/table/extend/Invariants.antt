use Rattle.std.proofs.Common.{◌≡◌, ◌+◌, ◌≤◌, ◌++◌, length, vec_len, vec_capacity}
use Rattle.jsonptr.specs.Text.{text}
use Rattle.jsonptr.specs.Pointer.{tokens}
use Rattle.jsonptr_tabled.specs.Private.{offsets_up_to}
use Rattle.jsonptr_tabled.proofs.table.extend.Given as goal

abbrev pub invariant-loop-after : goal.invariant-loop-after
invariant-loop-after l = record {
  within : length (text (tokens l.rest)) ≤ l.end;
  room : vec_len l.offsets + length (tokens l.rest) ≤ vec_capacity l.offsets;
  so_far : l.offsets.items ++ offsets_up_to l.end (tokens l.rest)
      ≡ l.fn.offsets.items ++ offsets_up_to l.end (tokens l.pointer);
}

abbrev pub decreases-loop-after : goal.decreases-loop-after
decreases-loop-after l = length (tokens l.rest)
