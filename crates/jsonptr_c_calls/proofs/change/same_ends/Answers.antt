use Rattle.std.proofs.Common.{arith}
use Rattle.jsonptr_c_calls.proofs.ChangeLemmas.{not_before, same_byte, same_ends_long}
use Rattle.jsonptr_c_calls.proofs.change.same_ends.Goals as goal

pub returns-else-j-start-clause-longest : goal.returns-else-j-start-clause-longest
returns-else-j-start-clause-longest c = λ p q a b d e same.
    let known = c.loop-i.invariant in
    omega (arith, same_ends_long c.args.old.now c.args.new.now c.loop-i.i c.loop-i.j p q known.4 same known.1 known.3 b e, c.if-j-start.false, d)

pub returns-else-old-i-clause-longest : goal.returns-else-old-i-clause-longest
returns-else-old-i-clause-longest c = λ p q a b d e same.
    let known = c.loop-i.invariant in
    let long = same_ends_long c.args.old.now c.args.new.now c.loop-i.i c.loop-i.j p q known.4 same known.1 known.3 b e in
    not_before c.loop-i.i p (λ lt. c.if-old-i.false (same_byte c.args.old.now c.args.new.now c.loop-i.i c.loop-i.j p q same lt long))
