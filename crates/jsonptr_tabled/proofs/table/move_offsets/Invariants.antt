use Rattle.jsonptr_tabled.proofs.TableLemmas.{MovedUpTo}
use Rattle.jsonptr_tabled.proofs.table.move_offsets.Given as goal

abbrev pub invariant-loop-i : goal.invariant-loop-i
invariant-loop-i l = MovedUpTo l.initial.offsets l.offsets l.from l.before l.after l.i
