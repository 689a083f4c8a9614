use Rattle.jsonptr_base.specs.Private.{IsValidBefore}
use Rattle.jsonptr_base.proofs.token.scan.invalid_byte_from.Given as goal

abbrev pub invariant-loop-i : goal.invariant-loop-i
invariant-loop-i l = IsValidBefore l.bytes l.i
