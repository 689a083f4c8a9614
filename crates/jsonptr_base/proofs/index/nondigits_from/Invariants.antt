use Rattle.std.proofs.Common.{length, ◌-◌, not}
use Rattle.std.specs.Char.{is_ascii_digit}
use Rattle.jsonptr_base.proofs.CountLemmas.{Counted}
use Rattle.jsonptr_base.proofs.index.nondigits_from.Given as goal

abbrev pub invariant-loop-end : goal.invariant-loop-end
invariant-loop-end l = Counted (λ b. not (is_ascii_digit b)) l.text l.offset l.end

abbrev pub decreases-loop-end : goal.decreases-loop-end
decreases-loop-end l = length l.text - l.end
