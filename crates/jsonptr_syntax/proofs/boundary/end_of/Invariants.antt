use denote.Text.{Utf8}
use denote.Shadow.{shadow}
use Rattle.jsonptr_syntax.proofs.CutCount.{Skipped}
use Rattle.jsonptr_syntax.proofs.boundary.end_of.Given as goal

abbrev pub invariant-loop : goal.invariant-loop
invariant-loop l = record { utf8 : shadow (Utf8 l.rest); so_far : Skipped l.whole l.rest l.counter }
