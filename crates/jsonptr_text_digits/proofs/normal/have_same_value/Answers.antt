use Rattle.std.proofs.Common.{◌≡◌, ℕ, List, ◌^◌, ◌<◌, ◌≤◌, ◌⊎◌, inl, inr, sym, ◌∙◌, subst, rules, true≢false, arith}
use Rattle.fast_float.specs.Text.{Parts}
use Rattle.jsonptr_text_digits.specs.Decimal.{parts_of, WriteSame, HaveSameValue}
use Rattle.jsonptr_text_digits.specs.Kept.{HasShortDigits, HasHugeExponent}
use Rattle.jsonptr_text_digits.specs.PrivateNormal.{IsNormal, IsSame, IsBig}
use Rattle.jsonptr_text_digits.specs.declared.normal.Normal.{Normal}
use Rattle.jsonptr_text_digits.proofs.ValueLemmas.{same_numbers, other_numbers, long_other, long_not_short, many_not_short}
use Rattle.jsonptr_text_digits.proofs.normal.have_same_value.Goals as goal

differ : (number printed : List ℕ) (p q : Parts) → p ≡ parts_of number → q ≡ parts_of printed → (WriteSame p q → ⊥) → HaveSameValue number printed → ⊥
differ number printed p q e k f h = f (rw (e, k) h.size)

big_printed : (printed : List ℕ) (q : Parts) → q ≡ parts_of printed → IsBig q → HasShortDigits (parts_of printed) → ⊥
big_printed printed q k (inl long) h = long_not_short q long (subst HasShortDigits (sym k) h)
big_printed printed q k (inr huge) h = let here : HasShortDigits q = subst HasShortDigits (sym k) h in omega (arith, here.exponent, huge)

big_number : (number printed : List ℕ) (p q : Parts) (m : Normal) → p ≡ parts_of number → q ≡ parts_of printed → IsNormal q m → m.digits < 2 ^ 64 → IsBig p
    → (HaveSameValue number printed → ⊥) ⊎ HasHugeExponent (parts_of number)
big_number number printed p q m e k h fits (inl long) = inl (differ number printed p q e k (long_other p q m long h fits))
big_number number printed p q m e k h fits (inr huge) = inr (subst HasHugeExponent e huge)

either : {A B C : Type 0} → A ⊎ B → A ⊎ (B ⊎ C)
either (inl a) = inl a
either (inr b) = inr (inl b)

pub returns-in_default-clause-differ : goal.returns-in_default-clause-differ
returns-in_default-clause-differ c t = inr (inr (big_printed c.args.printed.now c.numeral_of.result c.numeral_of.ensures (c.in_default.ensures {u = tt})))

pub returns-in_default-normal_of-clause-differ : goal.returns-in_default-normal_of-clause-differ
returns-in_default-normal_of-clause-differ c t =
    let other : IsNormal c.numeral_of.result c.in-Some.other = c.in-Some.ensures {u = tt} in
    let big : IsBig c.numeral_of-2.result = c.in_default-normal_of.ensures {u = tt} in
    either (big_number c.args.number.now c.args.printed.now c.numeral_of-2.result c.numeral_of.result c.in-Some.other c.numeral_of-2.ensures c.numeral_of.ensures other (search rules) big)

pub returns-then-other-lt-TEN_TO_17-clause-same : goal.returns-then-other-lt-TEN_TO_17-clause-same
returns-then-other-lt-TEN_TO_17-clause-same c t =
    let one : IsNormal c.numeral_of-2.result c.in-Some-normal_of.one = c.in-Some-normal_of.ensures {u = tt} in
    let other : IsNormal c.numeral_of.result c.in-Some.other = c.in-Some.ensures {u = tt} in
    let number_parts : c.numeral_of-2.result ≡ parts_of c.args.number.now = c.numeral_of-2.ensures in
    let printed_parts : c.numeral_of.result ≡ parts_of c.args.printed.now = c.numeral_of.ensures in
    let same = same_numbers _ _ _ _ one other (c.is_same.ensures.0 t) in
    record { sign = search rules; size = rw (number_parts, printed_parts) at same }

pub returns-then-other-lt-TEN_TO_17-clause-differ : goal.returns-then-other-lt-TEN_TO_17-clause-differ
returns-then-other-lt-TEN_TO_17-clause-differ c t =
    let one : IsNormal c.numeral_of-2.result c.in-Some-normal_of.one = c.in-Some-normal_of.ensures {u = tt} in
    let other : IsNormal c.numeral_of.result c.in-Some.other = c.in-Some.ensures {u = tt} in
    let not : IsSame c.in-Some-normal_of.one c.in-Some.other → ⊥ = λ s. true≢false (sym (c.is_same.ensures.1 s) ∙ t) in
    inl (differ c.args.number.now c.args.printed.now c.numeral_of-2.result c.numeral_of.result c.numeral_of-2.ensures c.numeral_of.ensures (other_numbers _ _ _ _ one other not))

pub returns-else-other-lt-TEN_TO_17-clause-differ : goal.returns-else-other-lt-TEN_TO_17-clause-differ
returns-else-other-lt-TEN_TO_17-clause-differ c t =
    let other : IsNormal c.numeral_of.result c.in-Some.other = c.in-Some.ensures {u = tt} in
    let many : 10 ^ 17 ≤ c.in-Some.other.digits = omega arith in
    inr (inr (λ h. many_not_short c.numeral_of.result c.in-Some.other other many (subst HasShortDigits (sym c.numeral_of.ensures) h)))
