use Rattle.std.proofs.Common.{rules, arith}
use Rattle.jsonptr_base.proofs.IndexLemmas.{not_below, numbered_large}
use Rattle.jsonptr_base.proofs.index.number_of.Goals as goal

pub returns-in_err-checked_mul : goal.returns-in_err-checked_mul
returns-in_err-checked_mul c =
    rw c.from_residual.ensures (λ numeral. numbered_large _ _ _ c.loop-i.invariant (omega arith) (search rules) (let over = not_below _ _ c.in_err-checked_mul.ensures in omega (arith, over)))

pub returns-in_err-number : goal.returns-in_err-number
returns-in_err-number c =
    rw c.from_residual-in_err-number.ensures (λ numeral. numbered_large _ _ _ c.loop-i.invariant (omega arith) (search rules) (let over = not_below _ _ c.in_err-number.ensures in omega (arith, over, c.in_ok-checked_mul.ensures, c.from-digit.ensures)))
