-- The bytes before `written` are those that the writer took.
use Rattle.std.specs.Io.KnownBytes.{Appends}
use Rattle.std.proofs.Common.{◌-◌, ◌≤◌, length, take}
use Rattle.jsonptr_io.proofs.write.write_bytes.Given as goal

abbrev pub invariant-loop-written : goal.invariant-loop-written
invariant-loop-written g l = (l.written ≤ length l.bytes) × Appends (g.W.Write.contents l.initial.output) (g.W.Write.contents l.output) (take l.written l.bytes)

abbrev pub decreases-loop-written : goal.decreases-loop-written
decreases-loop-written g l = length l.bytes - l.written
