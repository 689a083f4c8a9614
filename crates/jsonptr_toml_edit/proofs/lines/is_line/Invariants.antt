use Rattle.std.proofs.Common.{◌≡◌, ℕ, suc, ◌<◌, length, get_or}
use Rattle.jsonptr_toml_edit.proofs.lines.is_line.Given as goal

abbrev pub invariant-loop-index : goal.invariant-loop-index
invariant-loop-index l = (i : ℕ) → i < l.index → get_or l.bytes i 0 ≡ 10 → suc i ≡ length l.bytes
