use Rattle.std.proofs.Common.{length, ◌-◌, ◌==◌}
use Rattle.jsonptr_base.proofs.CountLemmas.{Counted}
use Rattle.jsonptr_base.proofs.index.leading_zeros.Given as goal

abbrev pub invariant-loop-count : goal.invariant-loop-count
invariant-loop-count l = Counted (λ b. b == 48) l.text 0 l.count

abbrev pub decreases-loop-count : goal.decreases-loop-count
decreases-loop-count l = length l.text - l.count
