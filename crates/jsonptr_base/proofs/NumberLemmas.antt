-- What is printed of an integer is its decimal text.
use Rattle.std.proofs.Common.{◌≡◌, ℕ, zero, suc, ap₂, ◌+◌, ◌/◌, ◌%◌, ◌<◌, ◌≤◌, ◌^◌, [], ◌∷◌, ◌++◌, map, Result, Ok, Err, IfOk, String, Global, string_bytes, refl, sym, ap, ◌∙◌, arith, lit≤, add-one}
use Rattle.std.specs.Prelude.{ℤ, pos, negsuc}
use lib.Signed.{mag}
use mir.Syntax.{Width, w8, w16, w32, w64, w128}
use mir.Val.{Fits, SFits, bits, hbits, to_z, of_z}
use Rattle.std.proofs.lemmas.Int.{to_z-of_z}
use Rattle.std.specs.Fmt.{decimal, signed_decimal}
use Rattle.std.specs.Int.Digits.{digits_of}
use Rattle.std.proofs.lemmas.List.{map-append}
use Rattle.std.proofs.lemmas.Int.Digits.{digits_of_step}
use Rattle.std.proofs.lemmas.Fmt.{decimal_by_steps_wide}
use Rattle.jsonptr_grammar.specs.Text.{Text, dec}
use Rattle.jsonptr_grammar.proofs.DecLemmas.{dec-digits_of}
use Rattle.jsonptr_base.specs.Number.{signed_dec}

dec_digit : (n : ℕ) → n < 10 → dec n ≡ (48 + n) ∷ []
dec_digit zero h = refl
dec_digit (suc m) h =
    let q : suc m / 10 ≡ 0 = omega arith in
    let r : suc m % 10 ≡ suc m = omega arith in
    dec-digits_of (suc m) (omega arith)
    ∙ ap (map (λ d. 48 + d)) (digits_of_step 10 (suc m) (omega arith) (omega arith) ∙ ap₂ (λ (x y : ℕ). digits_of 10 x ++ y ∷ []) q r)

dec_step : (n : ℕ) → 10 ≤ n → dec n ≡ dec (n / 10) ++ (48 + n % 10) ∷ []
dec_step n h =
    dec-digits_of n (omega arith) ∙ ap (map (λ d. 48 + d)) (digits_of_step 10 n (omega arith) (omega arith))
    ∙ map-append (λ d. 48 + d) (digits_of 10 (n / 10)) (n % 10 ∷ []) ∙ ap (λ (x : Text). x ++ (48 + n % 10) ∷ []) (sym (dec-digits_of (n / 10) (omega arith)))

dec-decimal_wide : (n : ℕ) → n < 10 ^ 64 → dec n ≡ decimal n
dec-decimal_wide = decimal_by_steps_wide (λ n s. dec n ≡ s) dec_digit (λ n ds h e. dec_step n h ∙ ap (λ (x : Text). x ++ (48 + n % 10) ∷ []) e)

-- every integer type holds fewer numbers than 64 digits write
below_digits : (w : Width) → 2 ^ bits w ≤ 10 ^ 64
below_digits w8 = lit≤ tt
below_digits w16 = lit≤ tt
below_digits w32 = lit≤ tt
below_digits w64 = lit≤ tt
below_digits w128 = lit≤ tt

amount_below_digits : (w : Width) → 2 ^ hbits w + 1 ≤ 10 ^ 64
amount_below_digits w8 = lit≤ tt
amount_below_digits w16 = lit≤ tt
amount_below_digits w32 = lit≤ tt
amount_below_digits w64 = lit≤ tt
amount_below_digits w128 = lit≤ tt

signed_dec-signed_decimal : (z : ℤ) → mag z + 1 < 10 ^ 64 → signed_dec z ≡ signed_decimal z
signed_dec-signed_decimal (pos n) h = dec-decimal_wide n (omega arith)
signed_dec-signed_decimal (negsuc n) h = ap (λ (x : Text). 45 ∷ x) (ap dec (add-one n) ∙ dec-decimal_wide (suc n) (omega arith))

-- a text that is printed of a number is its decimal text
pub printed : {E : Type 0} (w : Width) (r : Result (String Global) E) (n : ℕ) → Fits w n → IfOk r (λ s. string_bytes s ≡ decimal n) → IfOk r (λ s. string_bytes s ≡ dec n)
printed w (Ok s) n h e = e ∙ sym (dec-decimal_wide n (omega (arith, h.fits, below_digits w)))
printed w (Err x) n h e = e

pub printed_signed : {E : Type 0} (w : Width) (r : Result (String Global) E) (z : ℤ) → SFits w z → IfOk r (λ s. string_bytes s ≡ signed_decimal (to_z w (of_z w z))) → IfOk r (λ s. string_bytes s ≡ signed_dec z)
printed_signed w (Ok s) z h e = e ∙ ap signed_decimal (to_z-of_z w z h) ∙ sym (signed_dec-signed_decimal z (omega (arith, h.sfits, amount_below_digits w)))
printed_signed w (Err x) z h e = e
