use Rattle.std.proofs.Common.{◌≡◌, ℕ, ◌<◌, get_or, IfSome}
use Rattle.jsonptr_toml_edit.specs.Bytes.{IsHashBefore}
use Rattle.jsonptr_toml_edit.proofs.lines.has_no_blank_line.Given as goal

abbrev pub invariant-loop-index : goal.invariant-loop-index
invariant-loop-index l = record {
  done : (i : ℕ) → i < l.index → get_or l.bytes i 0 ≡ 10 → (j : ℕ) × IsHashBefore l.bytes i j;
  here : IfSome l.hash (λ j. IsHashBefore l.bytes l.index j);
}
