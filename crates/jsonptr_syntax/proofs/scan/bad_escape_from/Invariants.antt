use Rattle.std.proofs.Common.{ℕ, ◌<◌}
use Rattle.jsonptr_grammar.specs.FirstFault.{IsLooseTilde}
use Rattle.jsonptr_syntax.proofs.scan.bad_escape_from.Given as goal

abbrev pub invariant-loop-i : goal.invariant-loop-i
invariant-loop-i l = (k : ℕ) → k < l.i → IsLooseTilde l.bytes k → ⊥
