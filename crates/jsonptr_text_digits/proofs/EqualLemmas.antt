-- Having the same decimal value is an equivalence.
use Rattle.std.proofs.Common.{◌≡◌, ◌*◌, ◌^◌, ◌<◌, ℕ, List, Bool, true, false, codes, refl, sym, ap, ◌∙◌, arith}
use Rattle.std.proofs.Math.Nat.{mul_right_comm}
use Rattle.fast_float.specs.Text.{Parts, scan, digits_of, tens_up, tens_down}
use Rattle.jsonptr_text_digits.specs.Decimal.{HaveSameValue, WriteSame, is_negative, parts_of}
use Rattle.jsonptr_text_digits.proofs.TenLemmas.{ten_pos, cancel}

-- `a * z ≡ b * y` and `b * x ≡ c * z`, crosswise
crosswise : (a b c x y z : ℕ) → a * z ≡ b * y → b * x ≡ c * z → a * x * z ≡ c * y * z
crosswise a b c x y z p q =
    mul_right_comm a x z ∙ ap (λ k. k * x) p ∙ mul_right_comm b y x ∙ ap (λ k. k * y) q ∙ mul_right_comm c z y

write_transitive : (p q r : Parts) → WriteSame p q → WriteSame q r → WriteSame p r
write_transitive p q r h k =
    let a = digits_of p * 10 ^ tens_up p in
    let b = digits_of q * 10 ^ tens_up q in
    let c = digits_of r * 10 ^ tens_up r in
    cancel (a * 10 ^ tens_down r) (c * 10 ^ tens_down p) (10 ^ tens_down q) (ten_pos (tens_down q))
    (crosswise a b c (10 ^ tens_down r) (10 ^ tens_down p) (10 ^ tens_down q) h k)

pub same_itself : (raw : List ℕ) → HaveSameValue raw raw
same_itself raw = record { sign = refl; size = refl }

pub same_back : (raw other : List ℕ) → HaveSameValue raw other → HaveSameValue other raw
same_back raw other h = record { sign = sym h.sign; size = sym h.size }

pub same_through : (raw middle other : List ℕ) → HaveSameValue raw middle → HaveSameValue middle other → HaveSameValue raw other
same_through raw middle other h k = record {
  sign = h.sign ∙ k.sign;
  size = write_transitive (parts_of raw) (parts_of middle) (parts_of other) h.size k.size;
}

pub with_point : HaveSameValue (codes "1") (codes "1.0")
unfolding scan
with_point = record { sign = refl; size = refl }

pub with_exponent : HaveSameValue (codes "1") (codes "10e-1")
unfolding scan
with_exponent = record { sign = refl; size = refl }

pub with_fraction : HaveSameValue (codes "1") (codes "1.1") → ⊥
unfolding scan
with_fraction h = omega (arith, h.size)
