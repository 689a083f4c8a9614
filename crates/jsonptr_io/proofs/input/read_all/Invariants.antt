-- The bytes kept are those that the reader returned.
use Rattle.std.specs.Io.KnownBytes.{Consumes}
use Rattle.jsonptr_io.proofs.input.read_all.Given as goal

abbrev pub invariant-loop-turn : goal.invariant-loop-turn
invariant-loop-turn g l = Consumes (g.R.Read.remaining l.initial.input) (g.R.Read.remaining l.input) l.bytes.items
