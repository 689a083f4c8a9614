use Rattle.percent_encoding.specs.Percent.{percent_decode}
use Rattle.jsonptr_fragment.proofs.UnitLemmas.{IsAt}
use Rattle.jsonptr_fragment.proofs.units.offset_of.Given as goal

abbrev pub invariant-loop-turn : goal.invariant-loop-turn
invariant-loop-turn l = IsAt l.fragment (percent_decode l.fragment) l.left l._turn
