use Rattle.jsonptr_tabled.proofs.TableLemmas.{ShiftedDown}
use Rattle.jsonptr_tabled.proofs.table.shift_down.Given as goal

abbrev pub invariant-loop-i : goal.invariant-loop-i
invariant-loop-i l = ShiftedDown l.initial.offsets l.offsets l.by l.i
