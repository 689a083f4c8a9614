use Rattle.std.proofs.Common.{◌≡◌, ℕ, zero, suc, List, ◌+◌, ◌*◌, ◌^◌, ◌-◌, ◌<◌, ◌≤◌, ◌%◌, ◌≢◌, ◌⊎◌, inl, inr, take, length, get_or, refl, sym, ap, ◌∙◌, subst, arith, ◌++◌, Option, None, MatchOption}
use Rattle.std.proofs.Math.Nat.{le_trans}
use Rattle.jsonptr_text_digits.specs.PrivateNormal.{IsLong, IsSignificant}
use Rattle.std.specs.Str.Parse.{digits_value, digits_value_after, AllDigits}
use Rattle.jsonptr_text_digits.proofs.DigitLemmas.{digits_take, with_fraction, without_fraction, last_digit, at_least}
use Rattle.jsonptr_text_digits.proofs.normal.significant.Goals as goal

pub value_after-requires-then-end-gt0 : goal.value_after-requires-then-end-gt0
value_after-requires-then-end-gt0 c = digits_take _ _ c.requires.fraction

pub value_after-requires-2 : goal.value_after-requires-2
value_after-requires-2 c = digits_take _ _ c.requires.whole

ends : (v : ℕ) (ds : List ℕ) (end n : ℕ) → AllDigits 10 ds → 0 < end → end ≤ length ds → (0 < end → get_or ds (end - 1) 0 ≢ 48) → n ≡ digits_value_after 10 v (take end ds) → n % 10 ≢ 0
ends v ds end n all some within last is none = last_digit v ds end all some within (last some) (ap (λ k. k % 10) (sym is) ∙ none)

ends_or_none : (ds : List ℕ) (end n : ℕ) → AllDigits 10 ds → end ≤ length ds → (0 < end → get_or ds (end - 1) 0 ≢ 48) → n ≡ digits_value_after 10 0 (take end ds) → (n ≡ 0) ⊎ (n % 10 ≢ 0)
ends_or_none ds zero n all within last is = inl is
ends_or_none ds (suc k) n all within last is = inr (ends 0 ds (suc k) n all (omega arith) within last is)

pub returns-then-end-gt0 : goal.returns-then-end-gt0
returns-then-end-gt0 c =
    let rest = take c.without_zeros-end.result c.args.fraction.now in
    let first : c.in_ok-first.first ≡ digits_value_after 10 0 c.args.whole.now = c.in_ok-first.ensures {u = tt} in
    let digits : c.in_ok-digits.digits ≡ digits_value_after 10 c.in_ok-first.first rest = c.in_ok-digits.ensures {u = tt} in
    let within = c.without_zeros-end.ensures.within in
    record {
      value = with_fraction c.args.whole.now c.args.fraction.now c.without_zeros-end.result c.in_ok-digits.digits within c.without_zeros-end.ensures.value (digits ∙ ap (λ k. digits_value_after 10 k rest) first);
      few = omega arith;
      last = inr (ends c.in_ok-first.first c.args.fraction.now c.without_zeros-end.result c.in_ok-digits.digits c.requires.fraction (omega arith) within c.without_zeros-end.ensures.last digits);
    }

no_digits : (ds : List ℕ) (end : ℕ) → end ≡ 0 → digits_value 10 ds ≡ digits_value 10 (take end ds) * 10 ^ (length ds - end) → digits_value 10 ds ≡ 0
no_digits ds end e h = let k : digits_value 10 ds ≡ 0 * 10 ^ (length ds - end) = h ∙ ap (λ i. digits_value 10 (take i ds) * 10 ^ (length ds - end)) e in omega (arith, k)

pub returns : goal.returns
returns c =
    let digits : c.in_ok-digits-2.digits ≡ digits_value_after 10 0 (take c.without_zeros-end-2.result c.args.whole.now) = c.in_ok-digits-2.ensures {u = tt} in
    record {
      value = without_fraction c.args.whole.now c.args.fraction.now c.without_zeros-end-2.result c.in_ok-digits-2.digits (no_digits c.args.fraction.now c.without_zeros-end.result (omega arith) c.without_zeros-end.ensures.value) c.without_zeros-end-2.ensures.value digits;
      few = omega arith;
      last = ends_or_none c.args.whole.now c.without_zeros-end-2.result c.in_ok-digits-2.digits c.requires.whole c.without_zeros-end-2.ensures.within c.without_zeros-end-2.ensures.last digits;
    }

no_result : (ds : List ℕ) (o : Option (ℕ × ℕ)) → o ≡ None → IsLong ds → MatchOption o (IsLong ds) (λ r. IsSignificant ds r.0 r.1)
no_result ds o e p = rw e p

long_in_fraction : (whole fraction : List ℕ) (end : ℕ) → AllDigits 10 fraction → 0 < end → end ≤ length fraction
    → digits_value 10 fraction ≡ digits_value 10 (take end fraction) * 10 ^ (length fraction - end)
    → (0 < end → get_or fraction (end - 1) 0 ≢ 48)
    → 2 ^ 64 ≤ digits_value_after 10 (digits_value_after 10 0 whole) (take end fraction) → IsLong (whole ++ fraction)
long_in_fraction whole fraction end all some within zeros last long = record {
  n = digits_value_after 10 (digits_value_after 10 0 whole) (take end fraction);
  zeros = length fraction - end;
  value = with_fraction whole fraction end _ within zeros refl;
  last = ends (digits_value_after 10 0 whole) fraction end _ all some within last refl;
  long = long;
}

long_whole : (whole fraction : List ℕ) (end : ℕ) → AllDigits 10 whole → end ≤ length whole → digits_value 10 fraction ≡ 0
    → digits_value 10 whole ≡ digits_value 10 (take end whole) * 10 ^ (length whole - end)
    → (0 < end → get_or whole (end - 1) 0 ≢ 48)
    → 2 ^ 64 ≤ digits_value_after 10 0 (take end whole) → IsLong (whole ++ fraction)
long_whole whole fraction zero all within none zeros last long = absurd (omega arith)
long_whole whole fraction (suc k) all within none zeros last long = record {
  n = digits_value_after 10 0 (take (suc k) whole);
  zeros = length whole - suc k + length fraction;
  value = without_fraction whole fraction (suc k) _ none zeros refl;
  last = ends 0 whole (suc k) _ all (omega arith) within last refl;
  long = long;
}

pub returns-in_err-first : goal.returns-in_err-first
returns-in_err-first c =
    let first : 2 ^ 64 ≤ digits_value_after 10 0 c.args.whole.now = c.in_err-first.ensures {u = tt} in
    let long = le_trans first (at_least (digits_value_after 10 0 c.args.whole.now) (take c.without_zeros-end.result c.args.fraction.now)) in
    no_result _ _ c.from_residual.ensures (long_in_fraction c.args.whole.now c.args.fraction.now c.without_zeros-end.result c.requires.fraction (omega arith) c.without_zeros-end.ensures.within c.without_zeros-end.ensures.value c.without_zeros-end.ensures.last long)

pub returns-in_err-digits : goal.returns-in_err-digits
returns-in_err-digits c =
    let rest = take c.without_zeros-end.result c.args.fraction.now in
    let first : c.in_ok-first.first ≡ digits_value_after 10 0 c.args.whole.now = c.in_ok-first.ensures {u = tt} in
    let over : 2 ^ 64 ≤ digits_value_after 10 c.in_ok-first.first rest = c.in_err-digits.ensures {u = tt} in
    let long = subst (λ (k : ℕ). 2 ^ 64 ≤ digits_value_after 10 k rest) first over in
    no_result _ _ c.from_residual-in_err-digits.ensures (long_in_fraction c.args.whole.now c.args.fraction.now c.without_zeros-end.result c.requires.fraction (omega arith) c.without_zeros-end.ensures.within c.without_zeros-end.ensures.value c.without_zeros-end.ensures.last long)

pub returns-in_err-digits-2 : goal.returns-in_err-digits-2
returns-in_err-digits-2 c =
    let over : 2 ^ 64 ≤ digits_value_after 10 0 (take c.without_zeros-end-2.result c.args.whole.now) = c.in_err-digits-2.ensures {u = tt} in
    no_result _ _ c.from_residual-in_err-digits-2.ensures (long_whole c.args.whole.now c.args.fraction.now c.without_zeros-end-2.result c.requires.whole c.without_zeros-end-2.ensures.within (no_digits c.args.fraction.now c.without_zeros-end.result (omega arith) c.without_zeros-end.ensures.value) c.without_zeros-end-2.ensures.value c.without_zeros-end-2.ensures.last over)
