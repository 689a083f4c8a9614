-- A read that was interrupted keeps the bytes.
use Rattle.std.specs.Io.KnownBytes.{Keeps}
use Rattle.jsonptr_io.proofs.read.is_at_end.Given as goal

abbrev pub invariant-loop-turn : goal.invariant-loop-turn
invariant-loop-turn g l = Keeps (g.R.Read.remaining l.initial.input) (g.R.Read.remaining l.input)
