use Rattle.std.proofs.Common.{◌≡◌, ◌≤◌, ◌-◌, ◌++◌, length, drop, vec_len, vec_capacity}
use Rattle.jsonptr_grammar.specs.Text.{unesc}
use Rattle.jsonptr_base.proofs.token.scan.unescaped.Given as goal

abbrev pub invariant-loop-i : goal.invariant-loop-i
invariant-loop-i l = record {
  so_far : l.bytes.items ++ unesc (drop l.i l.encoded) ≡ unesc l.encoded;
  room : vec_capacity l.bytes ≡ length l.encoded;
  short : vec_len l.bytes ≤ l.i;
}

abbrev pub decreases-loop-i : goal.decreases-loop-i
decreases-loop-i l = length l.initial.text - l.i
