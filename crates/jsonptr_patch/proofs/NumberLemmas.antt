-- Numbers that are numerically equal.
use Rattle.std.proofs.Common.{◌≡◌, ℕ, suc, ◌*◌, ◌/◌, ◌%◌, ◌^◌, ◌<◌, ◌≤◌, ◌↔◌, ℤ, zero, pos, negsuc, Bool, true, false, T, IsTrue, Some, None, refl, sym, ap, ◌∙◌, subst, arith, true≢false, div-add-mod', mul-pos, div-le_self, unsigned_abs, int_lt}
use Rattle.std.proofs.Math.Nat.{mul-div_cancel, mul-lt-mul_of_pos_right, div-lt_iff_lt-mul}
use Rattle.std.proofs.lemmas.Float.{T_from_true, eq_flip, eq_trans}
use Rattle.std.proofs.lemmas.Bool.Decides.{nat_tests}
use Rattle.std.specs.Float.{Float, nan, inf, fin, binary64, two_to}
use Rattle.std.specs.Float.Ieee
use Rattle.serde_json.specs.Data.{Num, unsigned, negative, float}
use Rattle.serde_json.specs.Find.{as_integer, as_u64, as_i64, to_float}
use lib.Ieee.{up, down}
use lib.Ieee.Exact.{HasValue}
use lib.Ieee.Back.{round_whole}
use lib.Ieee.Fits.{down_pos}
use lib.Ieee.Bits.{is_true}
use Rattle.jsonptr_patch.specs.PrivateTesting.{SameNumber}
use Rattle.jsonptr_patch.specs.Testing.{exact, NumericallyEqual}

-- ---- integers

-- the value of a number that is an integer
pub exact_integer : (n : Num) (z : ℤ) → as_integer n ≡ Some z → exact n ≡ exact (negative z)
exact_integer (unsigned k) z e = let same : pos k ≡ z = cc in subst (λ (w : ℤ). fin false k (pos 0) ≡ exact (negative w)) same refl
exact_integer (negative w) z e = let same : w ≡ z = cc in ap (λ (v : ℤ). exact (negative v)) same
exact_integer (float x) z e = let none : ⊥ = cc in absurd none

itself : (z : ℤ) → T (Ieee.eq (exact (negative z)) (exact (negative z)))
unfolding Ieee.eq
itself (pos n) = grind (arith, nat_tests)
itself (negsuc n) = grind (arith, nat_tests)

pub integers_equal : (n m : Num) (z : ℤ) → as_integer n ≡ Some z → as_integer m ≡ Some z → NumericallyEqual n m
integers_equal n m z left right = subst (λ (x : Float). T (Ieee.eq x (exact m))) (sym (exact_integer n z left)) (subst (λ (x : Float). T (Ieee.eq (exact (negative z)) x)) (sym (exact_integer m z right)) (itself z))

-- two integers
same_integer : (z w : ℤ) → T (Ieee.eq (exact (negative z)) (exact (negative w))) → z ≡ w
unfolding Ieee.eq
same_integer (pos a) (pos b) h = ap pos (grind (arith, nat_tests))
same_integer (pos a) (negsuc b) h = absurd (grind (arith, nat_tests))
same_integer (negsuc a) (pos b) h = absurd (grind (arith, nat_tests))
same_integer (negsuc a) (negsuc b) h = ap negsuc (grind (arith, nat_tests))

pub whole_numbers : (n m : Num) (z w : ℤ) → as_integer n ≡ Some z → as_integer m ≡ Some w → NumericallyEqual n m → z ≡ w
whole_numbers n m z w left right h = same_integer z w (subst (λ (x : Float). T (Ieee.eq (exact (negative z)) x)) (exact_integer m w right) (subst (λ (x : Float). T (Ieee.eq x (exact m))) (exact_integer n z left) h))

-- the value of a number that is a float
pub exact_float : (n : Num) (x : Float) → None ≡ as_integer n → Some x ≡ Some (to_float n) → exact n ≡ x
exact_float (unsigned k) x e f = let none : ⊥ = cc in absurd none
exact_float (negative z) x e f = let none : ⊥ = cc in absurd none
exact_float (float y) x e f = let same : x ≡ y = cc in sym same

-- ---- integers and floats

-- up to 2 ^ 53 the conversion to a float loses nothing

same_value : (x : Float) (n : ℕ) → HasValue x false n 1 → T (Ieee.eq x (fin false n (pos 0)))
unfolding Ieee.eq
same_value nan n h = absurd h
same_value (inf t) n h = absurd h
same_value (fin true m e) n h = absurd (true≢false h.0)
same_value (fin false m e) n h = grind (arith, nat_tests, h.1)

pub small_integer : (n : ℕ) (x : Float) → n ≤ 2 ^ 53 → T (Ieee.eq (Ieee.of_int binary64 (pos n)) x) ↔ T (Ieee.eq (fin false n (pos 0)) x)
unfolding Ieee.of_int
small_integer n x small =
    let y : Float = Ieee.of_int binary64 (pos n) in
    let same : T (Ieee.eq y (fin false n (pos 0))) = same_value y n (round_whole binary64 false n small) in
    (λ h. eq_trans (fin false n (pos 0)) y x (eq_flip y (fin false n (pos 0)) same) h, λ h. eq_trans y (fin false n (pos 0)) x same h)

-- a float whose whole part is 2 ^ 53 or more has no fraction
no_fraction : (m : ℕ) (e : ℤ) → Ieee.fits binary64 (fin false m e) ≡ true → 2 ^ 53 ≤ m * up e / down e → m * up e % down e ≡ 0
unfolding Ieee.fits
no_fraction m (pos e) f big = omega arith
no_fraction zero (negsuc e) f big = absurd (omega (arith, div-le_self (0 * 1) (2 ^ suc e)))
no_fraction (suc m) (negsuc e) f big =
    let digits : suc m < 2 ^ 53 = grind (arith, nat_tests) in
    absurd (omega (arith, div-le_self (suc m * 1) (2 ^ suc e)))

pub top_is : Ieee.of_bits binary64 4895412794951729152 ≡ two_to 64
unfolding Ieee.of_bits
top_is = refl

-- above, the float below 2 ^ 64 that is an integer is known by its whole part
pub large_integer : (n : ℕ) (x : Float) → 2 ^ 53 ≤ n → Ieee.fits binary64 x ≡ true → Ieee.lt x (two_to 64) ≡ true → (Ieee.to_unsigned 64 x ≡ n) ↔ T (Ieee.eq (fin false n (pos 0)) x)
unfolding Ieee.lt Ieee.eq Ieee.to_unsigned
large_integer n nan big f low = absurd (true≢false (sym low))
large_integer n (inf true) big f low = (λ h. absurd (omega (arith, h)), λ h. absurd h)
large_integer n (inf false) big f low = absurd (true≢false (sym low))
large_integer n (fin true m e) big f low =
    let some : 0 < n * down e = mul-pos (omega arith) (down_pos e) in
    (λ h. absurd (omega (arith, h)), λ h. absurd (grind (arith, nat_tests)))
large_integer n (fin false m e) big f low =
    let a = m * up e in
    let below : a < 2 ^ 64 * down e = grind (arith, nat_tests) in
    let part : a / down e < 2 ^ 64 = (div-lt_iff_lt-mul {x = a} {y = 2 ^ 64} (down_pos e)).1 below in
    let split = div-add-mod' a (down e) in (
      λ h.
          let whole : a / down e ≡ n = omega (arith, h) in
          let none = no_fraction m e f (omega arith) in
          grind (arith, nat_tests),
      λ h.
          let same : n * down e ≡ a = grind (arith, nat_tests) in
          let whole : a / down e ≡ n = ap (λ (b : ℕ). b / down e) (sym same) ∙ mul-div_cancel n (down_pos e) in
          omega (arith, whole),
    )

-- from 2 ^ 64 on a float is no integer of 64 bits
pub above_all : (n : ℕ) (x : Float) → n < 2 ^ 64 → 2 ^ 53 ≤ n → Ieee.lt x (two_to 64) ≡ false → T (Ieee.eq (fin false n (pos 0)) x) → ⊥
unfolding Ieee.lt Ieee.eq
above_all n nan fits big high h = h
above_all n (inf s) fits big high h = h
above_all n (fin true m e) fits big high h =
    let some : 0 < n * down e = mul-pos (omega arith) (down_pos e) in
    grind (arith, nat_tests)
above_all n (fin false m e) fits big high h =
    let more = mul-lt-mul_of_pos_right fits (down_pos e) in
    grind (arith, nat_tests, down_pos e)

-- a sign on both sides
pub negated : (n : ℕ) (x : Float) → Ieee.eq (fin false (suc n) (pos 0)) (Ieee.neg x) ≡ Ieee.eq (fin true (suc n) (pos 0)) x
unfolding Ieee.eq Ieee.neg
negated n nan = refl
negated n (inf s) = refl
negated n (fin true m e) = refl
negated n (fin false m e) = grind (arith, nat_tests)

-- ---- the match arms of the code

pub both_integers : (n m : Num) (z w : ℤ) (b : Bool) → Some z ≡ as_integer n → Some w ≡ as_integer m → IsTrue b ↔ SameNumber n m → IsTrue b ↔ NumericallyEqual n m
both_integers n m z w b left right h = (
  λ t.
      let same = h.0 t in
      integers_equal n m same.0 same.1 same.2,
  λ e.
      let same : z ≡ w = whole_numbers n m z w (sym left) (sym right) e in
      h.1 (z, sym left, sym right ∙ ap (λ (v : ℤ). Some v) (sym same)),
)

pub left_float : (n m : Num) (x : Float) (b : Bool) → None ≡ as_integer n → Some x ≡ Some (to_float n) → IsTrue b ↔ T (Ieee.eq (exact m) x) → IsTrue b ↔ NumericallyEqual n m
left_float n m x b none is h =
    let same : exact n ≡ x = exact_float n x none is in
    subst (λ (y : Float). IsTrue b ↔ T (Ieee.eq y (exact m))) (sym same) (λ t. eq_flip (exact m) x (h.0 t), λ t. h.1 (eq_flip x (exact m) t))

pub right_float : (n m : Num) (x : Float) (b : Bool) → None ≡ as_integer m → Some x ≡ Some (to_float m) → IsTrue b ↔ T (Ieee.eq (exact n) x) → IsTrue b ↔ NumericallyEqual n m
right_float n m x b none is h = subst (λ (y : Float). IsTrue b ↔ T (Ieee.eq (exact n) y)) (sym (exact_float m x none is)) h

pub exact_unsigned : (n : Num) (k : ℕ) → Some k ≡ as_u64 n → exact n ≡ fin false k (pos 0)
exact_unsigned (unsigned j) k e = let same : k ≡ j = cc in ap (λ (i : ℕ). fin false i (pos 0)) (sym same)
exact_unsigned (negative z) k e = let none : ⊥ = cc in absurd none
exact_unsigned (float x) k e = let none : ⊥ = cc in absurd none

pub exact_signed : (n : Num) (z : ℤ) → None ≡ as_u64 n → Some z ≡ as_i64 n → exact n ≡ exact (negative z)
exact_signed (unsigned j) z none e = let wrong : ⊥ = cc in absurd wrong
exact_signed (negative w) z none e = let same : z ≡ w = cc in ap (λ (v : ℤ). exact (negative v)) (sym same)
exact_signed (float x) z none e = let wrong : ⊥ = cc in absurd wrong

pub exact_other : (n : Num) (x : Float) → None ≡ as_u64 n → None ≡ as_i64 n → Some x ≡ Some (to_float n) → exact n ≡ x
exact_other (unsigned j) x none lacks e = let wrong : ⊥ = cc in absurd wrong
exact_other (negative z) x none lacks e = let wrong : ⊥ = cc in absurd wrong
exact_other (float y) x none lacks e = let same : x ≡ y = cc in sym same

pub tested : (b : Bool) (P : Type 0) (e : Bool) → b ≡ e → T e ↔ P → IsTrue b ↔ P
tested b P e is h = (λ t. h.0 (T_from_true e (sym is ∙ t)), λ p. is ∙ is_true e (h.1 p))

pub tested_itself : (b e : Bool) → b ≡ e → IsTrue b ↔ T e
tested_itself b e is = tested b (T e) e is (λ t. t, λ t. t)

-- an integer below 0, by its size
pub below_zero : (z : ℤ) (a : ℕ) (x : Float) (b : Bool) → int_lt z (pos 0) ≡ true → a ≡ unsigned_abs z → IsTrue b ↔ T (Ieee.eq (fin false a (pos 0)) (Ieee.neg x)) → IsTrue b ↔ T (Ieee.eq (exact (negative z)) x)
below_zero (pos n) a x b low is h = absurd (grind (arith, nat_tests))
below_zero (negsuc n) a x b low is h = subst (λ (t : Bool). IsTrue b ↔ T t) (negated n x) (subst (λ (k : ℕ). IsTrue b ↔ T (Ieee.eq (fin false k (pos 0)) (Ieee.neg x))) is h)
