use Rattle.std.specs.Prelude.{IsTrue, ◌↔◌}
use Rattle.jsonptr_syntax.specs.Private.{HasLooseTildeBefore}
use Rattle.jsonptr_syntax.proofs.scan.has_bad_escape.Given as goal

abbrev pub invariant-loop-i : goal.invariant-loop-i
invariant-loop-i l = IsTrue l.loose ↔ HasLooseTildeBefore l.bytes l.i
