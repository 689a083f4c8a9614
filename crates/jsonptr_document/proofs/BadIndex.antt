-- A text that is not an index, or is `-`, is not the decimal text of an index.
use Rattle.std.proofs.Common.{◌≡◌, ℕ, ◌<◌, ◌^◌, true, false, not, List, [], ◌∷◌, length, slice_index, Some, None, Err, refl, sym, ap, ◌∙◌, subst, arith, position, nat_lt}
use Rattle.std.specs.Char.{is_ascii_digit, digit_value}
use Rattle.std.specs.Int.{IsInRange}
use Rattle.std.specs.List.{prefix_len}
use Rattle.std.specs.Str.Parse.{AllDigits}
use Rattle.std.proofs.lemmas.Bool.Decides.{nat_tests}
use Rattle.std.proofs.lemmas.Str.Parse.{digit_from_value}
use Rattle.jsonptr_grammar.specs.Text.{Text, dec}
use Rattle.jsonptr_grammar.proofs.DecLemmas.{AllDigits-dec, range-dec, dec_one, length-dec_pos, dec-not_nil, length-dec_zero, chars-dec}
use Rattle.jsonptr_base.specs.Index.{Reads, first_nondigit}
use Rattle.jsonptr_base.specs.declared.index.ParseIndexError.{ParseIndexError}
use Rattle.jsonptr_base.specs.declared.index.ParseIndexError.TheVariants.{InvalidInteger, LeadingZeros, InvalidCharacter}
use Rattle.jsonptr_base.specs.declared.index.IntegerCause.TheVariants.{Empty, Overflow}

digit_test : (c : ℕ) → digit_value c < 10 → is_ascii_digit c ≡ true
digit_test c h =
    let r : IsInRange 48 57 c = digit_from_value c h in
    grind (arith, nat_tests)

all_digits : (cs : List ℕ) → AllDigits 10 cs → prefix_len (λ c. not (not (is_ascii_digit c))) cs ≡ length cs
all_digits [] h = refl
all_digits (c ∷ cs) h = rw (digit_test c h.0) (omega (arith, all_digits cs h.1))

not_below : (n : ℕ) → nat_lt n n ≡ false
not_below n = grind (arith, nat_tests)

no_nondigit : (cs : List ℕ) → AllDigits 10 cs → position (λ c. not (is_ascii_digit c)) cs ≡ None
no_nondigit cs h = rw (all_digits cs h, not_below (length cs)) refl

-- each character of a decimal text is a digit
first_nondigit-dec : (i : ℕ) → first_nondigit (dec i) ≡ None
first_nondigit-dec i = ap (position (λ c. not (is_ascii_digit c))) (chars-dec i) ∙ no_nondigit (dec i) (AllDigits-dec i)

-- a decimal text of a number of 64 bits reads as an index
pub no_index : (x : Text) (source : ParseIndexError) (i : ℕ) → Reads x (Err source) → i < 2 ^ 64 → x ≡ dec i → ⊥
no_index x (InvalidInteger Empty) i h below e = dec-not_nil i (sym e ∙ h)
no_index x (InvalidInteger Overflow) i h below e =
    let same : h.0 ≡ i = dec_one h.0 i (sym h.1 ∙ e) in
    omega (arith, h.2)
no_index x LeadingZeros i h below e =
    let one : length (dec i) ≡ 1 = length-dec_zero i (subst (λ (t : Text). slice_index t 0 ≡ 48) e h.0) in
    let same : length x ≡ length (dec i) = ap length e in
    omega (arith, h.1)
no_index x (InvalidCharacter k) i h below e =
    let none : first_nondigit x ≡ None = ap first_nondigit e ∙ first_nondigit-dec i in
    let some : first_nondigit x ≡ Some k = h.2 in
    cc

-- `-` is not a decimal text
pub no_dash : (i : ℕ) → 45 ∷ [] ≡ dec i → ⊥
no_dash i e =
    let r : IsInRange 48 57 (slice_index (dec i) 0) = range-dec i 0 (length-dec_pos i) in
    let first : 45 ≡ slice_index (dec i) 0 = ap (λ (t : Text). slice_index t 0) e in
    omega (arith, r.0)
