use Rattle.jsonptr_tabled.proofs.TableLemmas.{ShiftedUp}
use Rattle.jsonptr_tabled.proofs.table.shift_up.Given as goal

abbrev pub invariant-loop-i : goal.invariant-loop-i
invariant-loop-i l = ShiftedUp l.initial.offsets l.offsets l.by l.i

abbrev pub decreases-loop-i : goal.decreases-loop-i
decreases-loop-i l = l.i
