use Rattle.std.specs.Prelude.{IsTrue, ◌↔◌}
use Rattle.jsonptr_base.specs.Private.{HasInvalidBefore}
use Rattle.jsonptr_base.proofs.token.scan.has_invalid_byte.Given as goal

abbrev pub invariant-loop-i : goal.invariant-loop-i
invariant-loop-i l = IsTrue l.invalid ↔ HasInvalidBefore l.bytes l.i
