-- Numbers that have the same digits and the same powers of ten.
use Rattle.std.proofs.Common.{◌≡◌, ℕ, ◌+◌, ◌*◌, ◌^◌, ◌%◌, ◌<◌, ◌≤◌, ◌≢◌, ◌⊎◌, inl, inr, sym, ap, ◌∙◌, arith, ◌++◌}
use Rattle.std.proofs.Math.Nat.{mul_assoc, le-mul_of_pos_right}
use Rattle.std.proofs.lemmas.Nat.{pow-add}
use Rattle.fast_float.specs.Text.{Parts, digits_of, tens_up, tens_down}
use Rattle.jsonptr_text_digits.specs.Decimal.{WriteSame}
use Rattle.jsonptr_text_digits.specs.PrivateNormal.{IsNormal, IsSame, IsLong}
use Rattle.jsonptr_text_digits.specs.Kept.{HasShortDigits}
use Rattle.jsonptr_text_digits.proofs.TenLemmas.{ten_pos, least, highest}
use Rattle.jsonptr_text_digits.specs.declared.normal.Normal.{Normal}

collapse : (d z u v : ℕ) → d * 10 ^ z * 10 ^ u * 10 ^ v ≡ d * 10 ^ (z + u + v)
collapse d z u v =
    mul_assoc (d * 10 ^ z) (10 ^ u) (10 ^ v) ∙ ap (λ k. d * 10 ^ z * k) (sym (pow-add 10 u v))
    ∙ mul_assoc d (10 ^ z) (10 ^ (u + v)) ∙ ap (λ k. d * k) (sym (pow-add 10 z (u + v)))
    ∙ ap (λ k. d * 10 ^ k) (omega arith)

-- what a numeral writes, times a power of ten
normal_times : (p : Parts) (n : Normal) (h : IsNormal p n) (v : ℕ) → digits_of p * 10 ^ tens_up p * 10 ^ v ≡ n.digits * 10 ^ (n.up + v)
normal_times p n h v =
    ap (λ k. k * 10 ^ tens_up p * 10 ^ v) h.value ∙ collapse n.digits h.zeros (tens_up p) v ∙ ap (λ k. n.digits * 10 ^ (k + v)) (sym h.up)

equal_sides : (n m : Normal) → IsSame n m → n.digits * 10 ^ (n.up + m.down) ≡ m.digits * 10 ^ (m.up + n.down)
equal_sides n m h = elim h.power [
  | inl none ↦
      let other : m.digits ≡ 0 = sym h.digits ∙ none in
      let left : n.digits * 10 ^ (n.up + m.down) ≡ 0 * 10 ^ (n.up + m.down) = ap (λ k. k * 10 ^ (n.up + m.down)) none in
      let right : m.digits * 10 ^ (m.up + n.down) ≡ 0 * 10 ^ (m.up + n.down) = ap (λ k. k * 10 ^ (m.up + n.down)) other in
      omega (arith, left, right)
  | inr power ↦ ap (λ k. k * 10 ^ (n.up + m.down)) h.digits ∙ ap (λ k. m.digits * 10 ^ k) power
]

pub same_numbers : (p q : Parts) (n m : Normal) → IsNormal p n → IsNormal q m → IsSame n m → WriteSame p q
same_numbers p q n m h k same =
    ap (λ d. digits_of p * 10 ^ tens_up p * 10 ^ d) (sym k.down) ∙ normal_times p n h m.down
    ∙ equal_sides n m same
    ∙ sym (normal_times q m k n.down) ∙ ap (λ d. digits_of q * 10 ^ tens_up q * 10 ^ d) h.down

sides : (p q : Parts) (n m : Normal) → IsNormal p n → IsNormal q m → WriteSame p q → n.digits * 10 ^ (n.up + m.down) ≡ m.digits * 10 ^ (m.up + n.down)
sides p q n m h k same =
    sym (normal_times p n h m.down) ∙ ap (λ d. digits_of p * 10 ^ tens_up p * 10 ^ d) k.down
    ∙ same
    ∙ ap (λ d. digits_of q * 10 ^ tens_up q * 10 ^ d) (sym h.down) ∙ normal_times q m k n.down

-- zero is no number times a power of ten but zero
none_left : (a b x y : ℕ) → a * 10 ^ x ≡ b * 10 ^ y → b ≡ 0 → a ≡ 0
none_left a b x y e none =
    let zero_side : a * 10 ^ x ≡ 0 = e ∙ ap (λ k. k * 10 ^ y) none ∙ omega arith in
    omega (arith, zero_side, le-mul_of_pos_right a (ten_pos x))

same_powers : (n m : Normal) → (n.digits ≡ 0) ⊎ (n.digits % 10 ≢ 0) → (m.digits ≡ 0) ⊎ (m.digits % 10 ≢ 0)
    → n.digits * 10 ^ (n.up + m.down) ≡ m.digits * 10 ^ (m.up + n.down) → IsSame n m
same_powers n m (inl none) last e = record { digits = none ∙ sym (none_left m.digits n.digits (m.up + n.down) (n.up + m.down) (sym e) none); power = inl none }
same_powers n m (inr some) (inl none) e =
    let zero_here = none_left n.digits m.digits (n.up + m.down) (m.up + n.down) e none in
    record { digits = zero_here ∙ sym none; power = inl zero_here }
same_powers n m (inr some) (inr last) e =
    let a = least n.digits m.digits (n.up + m.down) (m.up + n.down) some e in
    let b = least m.digits n.digits (m.up + n.down) (n.up + m.down) last (sym e) in
    let x = highest n.digits m.digits (n.up + m.down) (m.up + n.down) some e in
    let y = highest m.digits n.digits (m.up + n.down) (n.up + m.down) last (sym e) in
    record { digits = omega arith; power = inr (omega arith) }

pub other_numbers : (p q : Parts) (n m : Normal) → IsNormal p n → IsNormal q m → (IsSame n m → ⊥) → WriteSame p q → ⊥
other_numbers p q n m h k other same = other (same_powers n m h.last k.last (sides p q n m h k same))

-- a numeral of more digits than 64 bits hold
pub long_other : (p q : Parts) (m : Normal) → IsLong (p.whole ++ p.fraction) → IsNormal q m → m.digits < 2 ^ 64 → WriteSame p q → ⊥
long_other p q m h k fits same =
    let left : digits_of p * 10 ^ tens_up p * 10 ^ m.down ≡ h.n * 10 ^ (h.zeros + tens_up p + m.down) = ap (λ d. d * 10 ^ tens_up p * 10 ^ m.down) h.value ∙ collapse h.n h.zeros (tens_up p) m.down in
    let e : h.n * 10 ^ (h.zeros + tens_up p + m.down) ≡ m.digits * 10 ^ (m.up + tens_down p) =
    sym left ∙ ap (λ d. digits_of p * 10 ^ tens_up p * 10 ^ d) k.down ∙ same ∙ normal_times q m k (tens_down p) in
    omega (arith, least h.n m.digits (h.zeros + tens_up p + m.down) (m.up + tens_down p) h.last e, h.long)

pub long_not_short : (q : Parts) → IsLong (q.whole ++ q.fraction) → HasShortDigits q → ⊥
long_not_short q h k = omega (arith, least h.n k.significant h.zeros k.zeros h.last (sym h.value ∙ k.digits), h.long, k.few)

not_zero : (m : ℕ) → (m ≡ 0) ⊎ (m % 10 ≢ 0) → 0 < m → m % 10 ≢ 0
not_zero m (inl none) some e = omega arith
not_zero m (inr last) some e = last e

pub many_not_short : (q : Parts) (m : Normal) → IsNormal q m → 10 ^ 17 ≤ m.digits → HasShortDigits q → ⊥
many_not_short q m h many k =
    omega (arith, least m.digits k.significant h.zeros k.zeros (not_zero m.digits h.last (omega arith)) (sym h.value ∙ k.digits), k.few)

pub few_is_short : (q : Parts) (m : Normal) → IsNormal q m → m.digits < 10 ^ 17 → HasShortDigits q
few_is_short q m h few = record { significant = m.digits; zeros = h.zeros; digits = h.value; few = few; exponent = h.power_fits }
