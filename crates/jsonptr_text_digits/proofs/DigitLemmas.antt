-- Digits, and the numbers that they write.
use Rattle.std.proofs.Common.{◌≡◌, ℕ, zero, suc, ◌+◌, ◌-◌, ◌*◌, ◌^◌, ◌<◌, ◌≤◌, List, [], ◌∷◌, length, take, drop, get_or, refl, sym, ap, ◌∙◌, arith, ◌++◌, ◌%◌, length-take-le}
use Rattle.std.specs.Char.{digit_value}
use Rattle.std.specs.Str.Parse.{digits_value, digits_value_after, AllDigits}
use Rattle.std.proofs.Math.Seq.{drop-cons, take-suc}
use Rattle.std.proofs.lemmas.Int.Digits.{digits_value_more}
use Rattle.std.proofs.lemmas.Str.Parse.{digit_at}
use borrow.Author.Tests.{lt-ltb, le-ltb}
use Rattle.std.proofs.Math.Nat.{pow-succ', mul_assoc, add-mul}
use Rattle.std.proofs.lemmas.Nat.{pow-add}

-- the digits after the first ones make a number no smaller
pub at_least : (v : ℕ) (ds : List ℕ) → v ≤ digits_value_after 10 v ds
at_least v [] = omega arith
at_least v (d ∷ ds) = omega (arith, at_least (v * 10 + digit_value d) ds)

-- one digit more
pub one_more : (v i : ℕ) (ds : List ℕ) → i < length ds → digits_value_after 10 v (drop i ds) ≡ digits_value_after 10 (v * 10 + digit_value (get_or ds i 0)) (drop (suc i) ds)
one_more v i ds h = ap (digits_value_after 10 v) (drop-cons ds i 0 h)

is_value : (x : ℕ) → 48 ≤ x → x ≤ 57 → digit_value x ≡ x - 48
is_value x low high = rw (le-ltb x 48 low, lt-ltb x 58 (omega arith))

pub after_is : (n : ℕ) (ds : List ℕ) → digits_value_after 10 n ds ≡ n * 10 ^ length ds + digits_value 10 ds
after_is n [] = omega arith
after_is n (c ∷ cs) =
    let a = after_is (n * 10 + digit_value c) cs in
    let b = after_is (0 * 10 + digit_value c) cs in
    omega (arith, ap (λ x. n * x) (pow-succ' 10 (length cs)))

pub after-append : (n : ℕ) (xs ys : List ℕ) → digits_value_after 10 n (xs ++ ys) ≡ digits_value_after 10 (digits_value_after 10 n xs) ys
after-append n [] ys = refl
after-append n (x ∷ xs) ys = after-append (n * 10 + digit_value x) xs ys

-- each byte is a digit
pub digit_byte : (ds : List ℕ) (i : ℕ) → AllDigits 10 ds → i < length ds → (48 ≤ get_or ds i 0) × (get_or ds i 0 < 58) × (digit_value (get_or ds i 0) ≡ get_or ds i 0 - 48)
digit_byte ds i h l =
    let r = digit_at ds i h l in
    (r.0, omega arith, is_value (get_or ds i 0) r.0 r.1)

pub digits_take : (n : ℕ) (ds : List ℕ) → AllDigits 10 ds → AllDigits 10 (take n ds)
digits_take zero ds h = tt
digits_take (suc n) [] h = tt
digits_take (suc n) (d ∷ ds) h = (h.0, digits_take n ds h.1)

-- a zero at the end
pub one_zero : (ds : List ℕ) (end : ℕ) → 0 < end → end ≤ length ds → get_or ds (end - 1) 0 ≡ 48
    → digits_value 10 (take end ds) * 10 ^ (length ds - end) ≡ digits_value 10 (take (end - 1) ds) * 10 ^ (length ds - (end - 1))
one_zero ds end some within zero_at =
    let i = end - 1 in
    let e : i + 1 ≡ end = omega arith in
    let more : digits_value 10 (take (i + 1) ds) ≡ digits_value 10 (take i ds) * 10 + digit_value (get_or ds i 0) = digits_value_more 10 ds i (omega arith) in
    let none : digit_value (get_or ds i 0) ≡ 0 = ap digit_value zero_at in
    let left : length ds - i ≡ suc (length ds - end) = omega arith in
    let sum : digits_value 10 (take (i + 1) ds) ≡ digits_value 10 (take i ds) * 10 = omega (arith, more, none) in
    let first : digits_value 10 (take end ds) ≡ digits_value 10 (take i ds) * 10 = rw e at sum in
    let power : 10 ^ (length ds - i) ≡ 10 * 10 ^ (length ds - end) = ap (λ k. 10 ^ k) left ∙ pow-succ' 10 (length ds - end) in
    rw (first, power) (mul_assoc _ 10 _)

pub no_less : (v i : ℕ) (ds : List ℕ) → i < length ds → v * 10 + digit_value (get_or ds i 0) ≤ digits_value_after 10 v (drop i ds)
no_less v i ds h = omega (arith, one_more v i ds h, at_least (v * 10 + digit_value (get_or ds i 0)) (drop (suc i) ds))

-- the digits after the point end in zeros
pub with_fraction : (whole fraction : List ℕ) (end n : ℕ) → end ≤ length fraction
    → digits_value 10 fraction ≡ digits_value 10 (take end fraction) * 10 ^ (length fraction - end)
    → n ≡ digits_value_after 10 (digits_value_after 10 0 whole) (take end fraction)
    → digits_value 10 (whole ++ fraction) ≡ n * 10 ^ (length fraction - end)
with_fraction whole fraction end n within zeros is =
    let w = digits_value 10 whole in
    let last = length fraction - end in
    let f = digits_value 10 (take end fraction) in
    let joined : digits_value 10 (whole ++ fraction) ≡ w * 10 ^ length fraction + digits_value 10 fraction = after-append 0 whole fraction ∙ after_is w fraction in
    let long : length (take end fraction) ≡ end = length-take-le end fraction within in
    let short : n ≡ w * 10 ^ end + f = is ∙ after_is w (take end fraction) ∙ ap (λ k. w * 10 ^ k + f) long in
    let sum : length fraction ≡ end + last = omega arith in
    let power : 10 ^ length fraction ≡ 10 ^ end * 10 ^ last = ap (λ k. 10 ^ k) sum ∙ pow-add 10 end last in
    let left : digits_value 10 (whole ++ fraction) ≡ w * (10 ^ end * 10 ^ last) + f * 10 ^ last = joined ∙ ap (λ k. w * k + digits_value 10 fraction) power ∙ ap (λ k. w * (10 ^ end * 10 ^ last) + k) zeros in
    left ∙ ap (λ k. k + f * 10 ^ last) (sym (mul_assoc w (10 ^ end) (10 ^ last))) ∙ sym (add-mul (w * 10 ^ end) f (10 ^ last)) ∙ ap (λ k. k * 10 ^ last) (sym short)

-- the digits after the point are zeros, and so are the last ones before it
pub without_fraction : (whole fraction : List ℕ) (end n : ℕ)
    → digits_value 10 fraction ≡ 0
    → digits_value 10 whole ≡ digits_value 10 (take end whole) * 10 ^ (length whole - end)
    → n ≡ digits_value_after 10 0 (take end whole)
    → digits_value 10 (whole ++ fraction) ≡ n * 10 ^ (length whole - end + length fraction)
without_fraction whole fraction end n none zeros is =
    let w = digits_value 10 whole in
    let last = length whole - end in
    let joined : digits_value 10 (whole ++ fraction) ≡ w * 10 ^ length fraction + digits_value 10 fraction = after-append 0 whole fraction ∙ after_is w fraction in
    let left : digits_value 10 (whole ++ fraction) ≡ w * 10 ^ length fraction = omega (arith, joined, none) in
    let split : w ≡ n * 10 ^ last = zeros ∙ ap (λ k. k * 10 ^ last) (sym is) in
    left ∙ ap (λ k. k * 10 ^ length fraction) split ∙ mul_assoc n (10 ^ last) (10 ^ length fraction) ∙ ap (λ k. n * k) (sym (pow-add 10 last (length fraction)))

-- the last digit of a number
pub last_digit : (v : ℕ) (ds : List ℕ) (end : ℕ) → AllDigits 10 ds → 0 < end → end ≤ length ds → (get_or ds (end - 1) 0 ≡ 48 → ⊥)
    → digits_value_after 10 v (take end ds) % 10 ≡ 0 → ⊥
last_digit v ds end all some within other none =
    let i = end - 1 in
    let e : suc i ≡ end = omega arith in
    let d = digit_byte ds i all (omega arith) in
    let split : take (suc i) ds ≡ take i ds ++ (get_or ds i 0 ∷ []) = take-suc ds i 0 (omega arith) in
    let whole : digits_value_after 10 v (take end ds) ≡ digits_value_after 10 v (take i ds) * 10 + digit_value (get_or ds i 0) =
    ap (λ k. digits_value_after 10 v (take k ds)) (sym e) ∙ ap (digits_value_after 10 v) split ∙ after-append v (take i ds) (get_or ds i 0 ∷ []) in
    other (omega (arith, whole, none, d.0, d.1, d.2))
