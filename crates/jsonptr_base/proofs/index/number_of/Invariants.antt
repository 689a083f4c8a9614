use Rattle.jsonptr_base.proofs.IndexLemmas.{Numbered}
use Rattle.jsonptr_base.proofs.index.number_of.Given as goal

abbrev pub invariant-loop-i : goal.invariant-loop-i
invariant-loop-i l = Numbered l.digits l.i l.number
