use Rattle.std.proofs.Common.{refl, arith, ◌==◌}
use Rattle.std.proofs.lemmas.Bool.{ne_eqb}
use Rattle.jsonptr_base.proofs.CountLemmas.{counted_start, counted_more, counted_stop, counted_end}
use Rattle.jsonptr_base.proofs.index.leading_zeros.Goals as goal

pub loop-count-init : goal.loop-count-init
loop-count-init c = counted_start (λ b. b == 48) c.args.text.now 0

pub loop-count-preserved : goal.loop-count-preserved
loop-count-preserved c = counted_more (λ b. b == 48) c.args.text.now 0 _ c.loop-count.invariant c.loop-count-test.true (rw c.if-text-count-eq48.true refl)

pub returns-else-text-count-eq48 : goal.returns-else-text-count-eq48
returns-else-text-count-eq48 c =
    let e = counted_stop (λ b. b == 48) c.args.text.now 0 _ c.loop-count.invariant c.loop-count-test.true (ne_eqb _ _ c.if-text-count-eq48.false) in
    omega (arith, e)

pub returns-after-loop-count : goal.returns-after-loop-count
returns-after-loop-count c =
    let e = counted_end (λ b. b == 48) c.args.text.now 0 _ c.loop-count.invariant (omega (arith, c.loop-count-test.false)) in
    omega (arith, e)
