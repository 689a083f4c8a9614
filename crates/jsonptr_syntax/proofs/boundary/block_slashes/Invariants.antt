use Rattle.std.proofs.Common.{◌≡◌, take}
use Rattle.std.specs.Prelude.{count_by}
use Rattle.jsonptr_grammar.specs.Text.{is_slash}
use Rattle.jsonptr_syntax.proofs.boundary.block_slashes.Given as goal

abbrev pub invariant-loop-i : goal.invariant-loop-i
invariant-loop-i l = l.count ≡ count_by is_slash (take l.i l.block)
