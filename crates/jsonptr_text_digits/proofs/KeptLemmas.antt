-- What the text of a number is read as, and that it is kept.
use Rattle.std.proofs.Common.{◌≡◌, ℕ, List, Bool, true, false, Some, None, Float, refl, sym, ap, ◌∙◌, subst}
use Rattle.std.specs.Prelude.{IsTrue, if◌then◌else◌}
use Rattle.std.specs.Float.{binary64, float_is_finite}
use Rattle.fast_float.specs.Text.{Parts, digits_of, nearest, with_sign, IsInteger}
use Rattle.serde_json.specs.Data.{unsigned, negative, float}
use Rattle.serde_json.specs.Read.{number_of, number_from, float_of}
use Rattle.jsonptr_text_digits.specs.Decimal.{is_negative, parts_of}
use Rattle.jsonptr_text_digits.specs.Kept.{IsKeptNumber}

number_is : (s : List ℕ) (b : Bool) → is_negative s ≡ b → number_of s ≡ number_from b (parts_of s)
unfolding number_of
number_is s true e = rw e refl
number_is s false e = rw e refl

pub kept_unsigned : (s : List ℕ) (p : Parts) → is_negative s ≡ false → p ≡ parts_of s → IsInteger p → number_from false p ≡ Some (unsigned (digits_of p)) → IsKeptNumber s
kept_unsigned s p sign e whole is =
    let here : IsInteger (parts_of s) × (number_from false (parts_of s) ≡ Some (unsigned (digits_of (parts_of s)))) = subst (λ (q : Parts). IsInteger q × (number_from false q ≡ Some (unsigned (digits_of q)))) e (whole, is) in
    (unsigned (digits_of (parts_of s)), number_is s false sign ∙ here.1, (here.0, refl))

pub kept_negative : (s : List ℕ) (p : Parts) → is_negative s ≡ true → p ≡ parts_of s → IsInteger p → number_from true p ≡ Some (negative (with_sign true (digits_of p))) → IsKeptNumber s
kept_negative s p sign e whole is =
    let here : IsInteger (parts_of s) × (number_from true (parts_of s) ≡ Some (negative (with_sign true (digits_of (parts_of s))))) = subst (λ (q : Parts). IsInteger q × (number_from true q ≡ Some (negative (with_sign true (digits_of q))))) e (whole, is) in
    (negative (with_sign true (digits_of (parts_of s))), number_is s true sign ∙ here.1, (here.0, refl))

finite_float : (b : Bool) (q : Parts) (x : Float) → x ≡ nearest binary64 b q → IsTrue (float_is_finite x) → float_of b q ≡ Some (float x)
finite_float b q x e finite = rw (sym e) (rw finite refl)

pub read_float : (s : List ℕ) (p : Parts) (b : Bool) (x : Float) → is_negative s ≡ b → p ≡ parts_of s → number_from b p ≡ float_of b p → x ≡ nearest binary64 b p → IsTrue (float_is_finite x) → number_of s ≡ Some (float x)
read_float s p b x sign e is near finite =
    number_is s b sign ∙ ap (number_from b) (sym e) ∙ is ∙ finite_float b p x near finite

pub read_maybe : (s : List ℕ) (p : Parts) (b : Bool) (x : Float) → is_negative s ≡ b → p ≡ parts_of s → number_from b p ≡ float_of b p → x ≡ nearest binary64 b p
    → number_of s ≡ (if float_is_finite x then Some (float x) else None)
read_maybe s p b x sign e is near =
    let same : float_of b p ≡ (if float_is_finite x then Some (float x) else None) = rw near refl in
    number_is s b sign ∙ ap (number_from b) (sym e) ∙ is ∙ same
