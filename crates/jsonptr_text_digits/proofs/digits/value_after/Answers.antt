use Rattle.std.proofs.Common.{◌≡◌, ◌+◌, ◌*◌, suc, get_or, sym, ◌∙◌, arith}
use Rattle.std.specs.Char.{digit_value}
use Rattle.jsonptr_text_digits.proofs.DigitLemmas.{digit_byte, no_less, one_more}
use Rattle.jsonptr_text_digits.proofs.digits.value_after.Goals as goal

pub overflow_sub-digit : goal.overflow_sub-digit
overflow_sub-digit c = (digit_byte c.args.digits.now c.loop-digit.digit-index c.requires (omega arith)).0

pub returns-in_default : goal.returns-in_default
returns-in_default c = let h = no_less c.loop-digit.value c.loop-digit.digit-index c.args.digits.now (omega arith) in omega (arith, c.loop-digit.invariant, c.in_default.ensures)

pub returns-in_default-checked_add : goal.returns-in_default-checked_add
returns-in_default-checked_add c =
    let i = c.loop-digit.digit-index in
    let ds = c.args.digits.now in
    let h = no_less c.loop-digit.value i ds (omega arith) in
    omega (arith, c.loop-digit.invariant, (digit_byte ds i c.requires (omega arith)).2, c.in_default-checked_add.ensures)

pub loop-digit-preserved : goal.loop-digit-preserved
loop-digit-preserved c =
    let i = c.loop-digit.digit-index in
    let ds = c.args.digits.now in
    let v = c.loop-digit.value in
    let next : c.in-Some-checked_add.next ≡ v * 10 + digit_value (get_or ds i 0) = omega (arith, (digit_byte ds i c.requires (omega arith)).2) in
    let s : i + 1 ≡ suc i = omega arith in
    rw (next, s) (sym (one_more v i ds (omega arith)) ∙ c.loop-digit.invariant)
