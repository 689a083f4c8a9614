-- Array indices: what the characters of a text say about the number that it writes, and that a text and
-- its escape read alike.
use Rattle.std.proofs.Common.{◌≡◌, ◌≢◌, ℕ, suc, ◌+◌, ◌*◌, ◌-◌, ◌<◌, ◌≤◌, ◌^◌, Bool, true, false, not, cond, List, [], ◌∷◌, ◌++◌, append-nil, length, get_or, drop, drop-cons, add-one, Option, Some, None, Result, Ok, Err, option_map, refl, sym, ap, ◌∙◌, subst, ⊎_elim, inl, inr, arith, position}
use Rattle.std.specs.Prelude.{IsUtf8, nat_lt, nat_eq, ◌↔◌}
use Rattle.std.specs.Char.{is_ascii_digit, digit_value}
use Rattle.std.specs.Int.{IsInRange}
use Rattle.std.specs.List.{prefix_len}
use Rattle.std.specs.Str.{IsAscii, chars, encode_utf8_all}
use Rattle.std.specs.Str.Parse.{AllDigits, IsNumeral, digits_value, digits_value_after}
use Rattle.std.proofs.lemmas.Bool.{cases_lt, cases_eq, ne_eqb}
use Rattle.std.proofs.lemmas.Bool.Decides.{nat_tests}
use Rattle.std.proofs.lemmas.List.{get_or_past, at_drop_all}
use Rattle.std.proofs.lemmas.Str.{encodes-chars, encodes-IsAscii, encode_ascii, length-encode, inside_one}
use lib.Utf8.{encode}
use Rattle.std.proofs.lemmas.Str.Parse.{digit_at}
use Rattle.jsonptr_grammar.specs.Text.{Text, dec, esc}
use Rattle.jsonptr_grammar.proofs.EscapeLemmas.{unesc-esc, IsUtf8-unesc, IsToken-esc, by_byte, length-le-esc, esc_one, chars-esc, esc-cons}
use Rattle.jsonptr_grammar.proofs.DecLemmas.{dec_from_digits_length, esc-dec, AllDigits-dec, range-dec, chars-dec, dec-not_nil, digits_value-dec, length-dec_zero}
use Rattle.jsonptr_base.specs.Index.{Reads, first_nondigit, index_text, IsWithin, IsWithinOrNext, position_in}
use Rattle.jsonptr_base.specs.declared.index.OutOfBoundsError.{OutOfBoundsError}
use Rattle.jsonptr_base.specs.declared.index.Index.{Index}
use Rattle.jsonptr_base.specs.declared.index.Index.TheVariants.{Num, Next}
use Rattle.jsonptr_base.specs.declared.index.ParseIndexError.{ParseIndexError}
use Rattle.jsonptr_base.specs.declared.index.ParseIndexError.TheVariants.{InvalidInteger, LeadingZeros, InvalidCharacter}
use Rattle.jsonptr_base.specs.declared.index.IntegerCause.TheVariants.{Empty, Overflow}

abbrev is_nondigit : ℕ → Bool
is_nondigit c = not (is_ascii_digit c)

digit_small : (c : ℕ) → is_ascii_digit c ≡ true → digit_value c < 10
digit_small c h = grind (arith, nat_tests)

search_lt : (a b : ℕ) → a < b → cond (nat_lt a b) (Some a) None ≡ None → ⊥
search_lt a b below h = let t : nat_lt a b ≡ true = grind (arith, nat_tests) in let e : cond (nat_lt a b) (Some a) None ≡ Some a = rw t refl in cc

-- an option that a test makes is `None` only if the test fails
test_failed : (a b : ℕ) → cond (nat_lt a b) (Some a) None ≡ None → b ≤ a
test_failed a b h = ⊎_elim (λ below. absurd (search_lt a b below h)) (λ over. over) (cases_lt a b)

digits_to_end : (cs : List ℕ) → length cs ≤ prefix_len (λ x. not (is_nondigit x)) cs → AllDigits 10 cs
digits_to_end [] h = tt
digits_to_end (c ∷ cs) h =
    let at : (b : Bool) → is_ascii_digit c ≡ b → suc (length cs) ≤ cond (not (not b)) (1 + prefix_len (λ x. not (is_nondigit x)) cs) 0 → AllDigits 10 (c ∷ cs) =
    λ b. elim b as (λ b. is_ascii_digit c ≡ b → suc (length cs) ≤ cond (not (not b)) (1 + prefix_len (λ x. not (is_nondigit x)) cs) 0 → AllDigits 10 (c ∷ cs)) [
      | true ↦ λ e more. (digit_small c e, digits_to_end cs (omega arith))
      | false ↦ λ e more. absurd (omega arith)
    ] in
    at (is_ascii_digit c) refl h

-- a list of digits is its own UTF-8
ascii_digits : (cs : List ℕ) → AllDigits 10 cs → IsAscii cs
ascii_digits cs h i =
    ⊎_elim
    (λ below. let r : IsInRange 48 57 (get_or cs i 0) = digit_at cs i h below in omega (arith, r.1))
    (λ past. let e : get_or cs i 0 ≡ 0 = get_or_past cs i 0 past in omega arith)
    (cases_lt i (length cs))

-- a text in which each character is a digit is a text of digits
pub digits_from_none : (s : Text) → IsUtf8 s → first_nondigit s ≡ None → AllDigits 10 s
digits_from_none s u none =
    let all : AllDigits 10 (chars s) = digits_to_end (chars s) (test_failed _ _ none) in
    let same : chars s ≡ s = sym (encodes-IsAscii (chars s) (ascii_digits (chars s) all)) ∙ encodes-chars s u in
    subst (AllDigits 10) same all

-- what is known of a text that `read_number` reads
zero_alone : (s : Text) → get_or s 0 0 ≡ 48 → length s ≤ 1 → s ≡ 48 ∷ []
zero_alone [] h l = absurd (omega arith)
zero_alone (b ∷ []) h l = ap (λ x. x ∷ []) h
zero_alone (b ∷ c ∷ bs) h l = absurd (omega arith)

zero_digit : first_nondigit (48 ∷ []) ≡ None
unfolding chars
zero_digit = refl

nothing : first_nondigit [] ≡ None
unfolding chars
nothing = refl

pub not_zero : (s : Text) (k : ℕ) → (get_or s 0 0 ≡ 48 → length s ≤ 1) → first_nondigit s ≡ Some k → get_or s 0 0 ≢ 48
not_zero s k alone is zero =
    let e = zero_alone s zero (alone zero) in
    let f : first_nondigit s ≡ None = ap first_nondigit e ∙ zero_digit in
    cc

-- what a text of digits says about the number
module _ (s : Text) (alone : get_or s 0 0 ≡ 48 → length s ≤ 1) where
  numeral_is : IsNumeral 10 s → s ≡ dec (digits_value 10 s)
  numeral_is (some, digits) =
      dec_from_digits_length s digits some
      (⊎_elim (λ zero. inr (omega (arith, alone zero))) (λ other. inl other) (cases_eq (get_or s 0 0) 48))

  pub reads_numeral : (n : ℕ) → IsNumeral 10 s → n ≡ digits_value 10 s → n < 2 ^ 64 → (s ≡ dec n) × (n < 2 ^ 64)
  reads_numeral n numeral is fits = (numeral_is numeral ∙ ap dec (sym is), fits)

  pub reads_overflow : IsUtf8 s → first_nondigit s ≡ None → 0 < length s → (IsNumeral 10 s → digits_value 10 s < 2 ^ 64 → ⊥) → (i : ℕ) × (s ≡ dec i) × (2 ^ 64 ≤ i)
  reads_overflow u none some over =
      let numeral : IsNumeral 10 s = (some, digits_from_none s u none) in
      (digits_value 10 s, numeral_is numeral, ⊎_elim (λ fits. absurd (over numeral fits)) (λ h. h) (cases_lt (digits_value 10 s) (2 ^ 64)))

-- ---- a number read digit by digit

digit_is : (c : ℕ) → is_ascii_digit c ≡ true → digit_value c ≡ c - 48
digit_is c h = grind (arith, nat_tests)

digit_of_value : (c : ℕ) → digit_value c < 10 → is_ascii_digit c ≡ true
digit_of_value c h = grind (arith, nat_tests)

after_least : (n : ℕ) (cs : List ℕ) → n ≤ digits_value_after 10 n cs
after_least n [] = omega arith
after_least n (c ∷ cs) = omega (arith, after_least (n * 10 + digit_value c) cs)

pub not_below : (a b : ℕ) → (a < b → ⊥) → b ≤ a
not_below a b h = ⊎_elim (λ below. absurd (h below)) (λ over. over) (cases_lt a b)

-- n is the number that the bytes before offset i write, which are digits
pub record Numbered (ds : List ℕ) (i n : ℕ) : Type 0 where
  pub back : AllDigits 10 (drop i ds) → AllDigits 10 ds
  pub on : AllDigits 10 ds → AllDigits 10 (drop i ds)
  pub value : digits_value_after 10 n (drop i ds) ≡ digits_value 10 ds

pub numbered_start : (ds : List ℕ) → Numbered ds 0 0
numbered_start ds = record { back = λ h. h; on = λ h. h; value = refl }

module _ (ds : List ℕ) (i n : ℕ) (h : Numbered ds i n) where
  pub numbered_end : length ds ≤ i → AllDigits 10 ds × (n ≡ digits_value 10 ds)
  numbered_end over =
      (h.back (subst (AllDigits 10) (sym (at_drop_all (λ (l : List ℕ). l) ds i over)) tt), sym (at_drop_all (digits_value_after 10 n) ds i over) ∙ h.value)

  module _ (below : i < length ds) where
    next : drop i ds ≡ get_or ds i 0 ∷ drop (i + 1) ds
    next = drop-cons ds i 0 below ∙ ap (λ (k : ℕ). get_or ds i 0 ∷ drop k ds) (sym (add-one i))

    pub numbered_nondigit : (is_ascii_digit (get_or ds i 0) ≡ true → ⊥) → AllDigits 10 ds → ⊥
    numbered_nondigit other all =
        let rest : AllDigits 10 (get_or ds i 0 ∷ drop (i + 1) ds) = subst (AllDigits 10) next (h.on all) in
        other (digit_of_value (get_or ds i 0) rest.0)

    module _ (digit : is_ascii_digit (get_or ds i 0) ≡ true) where
      pub numbered_more : Numbered ds (i + 1) (n * 10 + (get_or ds i 0 - 48))
      numbered_more = record {
        back = λ all. h.back (subst (AllDigits 10) (sym next) (digit_small (get_or ds i 0) digit, all));
        on = λ all. let rest : AllDigits 10 (get_or ds i 0 ∷ drop (i + 1) ds) = subst (AllDigits 10) next (h.on all) in rest.1;
        value = ap (λ (x : ℕ). digits_value_after 10 (n * 10 + x) (drop (i + 1) ds)) (sym (digit_is (get_or ds i 0) digit)) ∙ ap (digits_value_after 10 n) (sym next) ∙ h.value;
      }

      pub numbered_large : (2 ^ 64 ≤ n * 10 + (get_or ds i 0 - 48)) → digits_value 10 ds < 2 ^ 64 → ⊥
      numbered_large over fits = omega (arith, over, fits, after_least (n * 10 + (get_or ds i 0 - 48)) (drop (i + 1) ds), numbered_more.value)

-- ---- a text and its escape read alike

lt_true : (a b : ℕ) → a < b → nat_lt a b ≡ true
lt_true a b h = grind (arith, nat_tests)

lt_false : (a b : ℕ) → b ≤ a → nat_lt a b ≡ false
lt_false a b h = grind (arith, nat_tests)

shift : (n m : ℕ) → cond (nat_lt (1 + n) (suc m)) (Some (1 + n)) None ≡ option_map (λ k. 1 + k) (cond (nat_lt n m) (Some n) None)
shift n m =
    ⊎_elim
    (λ below. rw (lt_true (1 + n) (suc m) (omega arith), lt_true n m below) refl)
    (λ over. rw (lt_false (1 + n) (suc m) (omega arith), lt_false n m over) refl)
    (cases_lt n m)

position-cons : (p : ℕ → Bool) (x : ℕ) (xs : List ℕ) (b : Bool) → p x ≡ b
    → position p (x ∷ xs) ≡ cond b (Some 0) (option_map (λ k. 1 + k) (position p xs))
position-cons p x xs true e = rw (e, lt_true 0 (suc (length xs)) (omega arith)) refl
position-cons p x xs false e = rw e (shift (prefix_len (λ y. not (p y)) xs) (length xs))

first_high : (c : ℕ) → 128 ≤ c → 128 ≤ get_or (encode c) 0 0
first_high c high =
    let some : 0 < length (encode c) = grind (arith, nat_tests, length-encode c) in
    ⊎_elim
    (λ (low : get_or (encode c) 0 0 < 128). absurd (omega (arith, high, low, inside_one c [] (encode c) 0 (sym (append-nil (encode c))) some low)))
    (λ over. over)
    (cases_lt (get_or (encode c) 0 0) 128)

nondigit_high : (c : ℕ) → 128 ≤ c → is_nondigit c ≡ true
nondigit_high c high = grind (arith, nat_tests)

position-high : (xs ys : List ℕ) → 128 ≤ get_or xs 0 0 → position is_nondigit (xs ++ ys) ≡ Some 0
position-high [] ys high = absurd (omega arith)
position-high (x ∷ xs) ys high = position-cons is_nondigit x (xs ++ ys) true (nondigit_high x high)

-- a character is a digit if its first byte is one
position-encodes : (cs : List ℕ) → position is_nondigit (encode_utf8_all cs) ≡ position is_nondigit cs
position-encodes [] = refl
position-encodes (c ∷ cs) =
    ⊎_elim
    (λ low.
    ap (λ (x : List ℕ). position is_nondigit (x ++ encode_utf8_all cs)) (encode_ascii c low)
    ∙ position-cons is_nondigit c (encode_utf8_all cs) (is_nondigit c) refl
    ∙ ap (λ (o : Option ℕ). cond (is_nondigit c) (Some 0) (option_map (λ k. 1 + k) o)) (position-encodes cs)
    ∙ sym (position-cons is_nondigit c cs (is_nondigit c) refl))
    (λ high. position-high (encode c) (encode_utf8_all cs) (first_high c high) ∙ sym (position-cons is_nondigit c cs true (nondigit_high c high)))
    (cases_lt c 128)

-- the first character that is not a digit is at the offset of the first byte that is not one
pub first_nondigit-bytes : (s : Text) → IsUtf8 s → position is_nondigit s ≡ first_nondigit s
first_nondigit-bytes s u = ap (position is_nondigit) (sym (encodes-chars s u)) ∙ position-encodes (chars s)

-- a character that is escaped is not a digit
position-esc : (cs : List ℕ) → position is_nondigit (esc cs) ≡ position is_nondigit cs
position-esc [] = refl
position-esc (c ∷ cs) =
    by_byte (λ b. position is_nondigit (esc (b ∷ cs)) ≡ position is_nondigit (b ∷ cs)) c
    (position-cons is_nondigit 126 (48 ∷ esc cs) true refl ∙ sym (position-cons is_nondigit 126 cs true refl))
    (position-cons is_nondigit 126 (49 ∷ esc cs) true refl ∙ sym (position-cons is_nondigit 47 cs true refl))
    (λ tilde slash.
    ap (position is_nondigit) (esc-cons c cs tilde slash) ∙ position-cons is_nondigit c (esc cs) (is_nondigit c) refl
    ∙ ap (λ (o : Option ℕ). cond (is_nondigit c) (Some 0) (option_map (λ k. 1 + k) o)) (position-esc cs)
    ∙ sym (position-cons is_nondigit c cs (is_nondigit c) refl))

pub first_nondigit-esc : (s : Text) → IsUtf8 s → first_nondigit (esc s) ≡ first_nondigit s
first_nondigit-esc s u = ap (position is_nondigit) (chars-esc s u) ∙ position-esc (chars s)

-- the first byte of the escape, where it is a digit or the text's own first byte
first-esc : (s : Text) → get_or s 0 0 ≡ 48 → get_or (esc s) 0 0 ≡ 48
first-esc [] h = h
first-esc (b ∷ bs) h = rw h refl

first-unesc : (s : Text) → get_or (esc s) 0 0 ≡ 48 → get_or s 0 0 ≡ 48
first-unesc [] h = h
first-unesc (b ∷ bs) h =
    by_byte (λ x. get_or (esc (x ∷ bs)) 0 0 ≡ 48 → x ≡ 48) b
    (λ e. absurd (omega (arith, e))) (λ e. absurd (omega (arith, e)))
    (λ tilde slash e. sym (ap (λ (l : Text). get_or l 0 0) (esc-cons b bs tilde slash)) ∙ e) h

longer : (s : Text) → get_or s 0 0 ≡ 48 → 1 < length (esc s) → 1 < length s
longer [] h l = l
longer (b ∷ []) h l =
    let e : length (esc (b ∷ [])) ≡ 1 = rw h refl in
    omega (arith, e)
longer (b ∷ c ∷ bs) h l = omega arith

module _ (s : Text) (u : IsUtf8 s) where
  -- what the escape reads as, the text does
  pub Reads-unesc : (r : Result Index ParseIndexError) → Reads (esc s) r → Reads s r
  Reads-unesc (Ok (Num i)) h = (esc_one s (dec i) (h.0 ∙ sym (esc-dec i)), h.1)
  Reads-unesc (Ok Next) h = esc_one s (45 ∷ []) h
  Reads-unesc (Err (InvalidInteger Empty)) h = esc_one s [] h
  Reads-unesc (Err (InvalidInteger Overflow)) h = (h.0, esc_one s (dec h.0) (h.1 ∙ sym (esc-dec h.0)), h.2)
  Reads-unesc (Err LeadingZeros) h = let first = first-unesc s h.0 in (first, longer s first h.1)
  Reads-unesc (Err (InvalidCharacter k)) h = (λ e. h.0 (first-esc s e), λ e. h.1 (ap esc e), sym (first_nondigit-esc s u) ∙ h.2)

  -- and back
  pub Reads-esc : (r : Result Index ParseIndexError) → Reads s r → Reads (esc s) r
  Reads-esc (Ok (Num i)) h = (ap esc h.0 ∙ esc-dec i, h.1)
  Reads-esc (Ok Next) h = ap esc h
  Reads-esc (Err (InvalidInteger Empty)) h = ap esc h
  Reads-esc (Err (InvalidInteger Overflow)) h = (h.0, ap esc h.1 ∙ esc-dec h.0, h.2)
  Reads-esc (Err LeadingZeros) h = (first-esc s h.0, omega (arith, h.1, length-le-esc s))
  Reads-esc (Err (InvalidCharacter k)) h = (λ e. h.0 (first-unesc s e), λ e. h.1 (esc_one s (45 ∷ []) e), first_nondigit-esc s u ∙ h.2)

-- the decoded text of a UTF-8 token is UTF-8
pub IsUtf8-from_esc : (s : Text) → IsUtf8 (esc s) → IsUtf8 s
IsUtf8-from_esc s u = subst IsUtf8 (unesc-esc s) (IsUtf8-unesc (esc s) (IsToken-esc s) u)

-- ---- a text has one reading

digit_true : (c : ℕ) → digit_value c < 10 → is_ascii_digit c ≡ true
digit_true c h = grind (arith, nat_tests)

position-digits : (cs : List ℕ) → AllDigits 10 cs → position is_nondigit cs ≡ None
position-digits [] h = refl
position-digits (c ∷ cs) h =
    position-cons is_nondigit c cs false (ap not (digit_true c h.0)) ∙ ap (λ (o : Option ℕ). option_map (λ k. 1 + k) o) (position-digits cs h.1)

first_nondigit-dec : (n : ℕ) → first_nondigit (dec n) ≡ None
first_nondigit-dec n = ap (position is_nondigit) (chars-dec n) ∙ position-digits (dec n) (AllDigits-dec n)

-- the reading of a text that is not empty, not `-` and has no leading zeros
abbrev number_or : Option ℕ → ℕ → Result Index ParseIndexError
number_or (Some k) n = Err (InvalidCharacter k)
number_or None n = cond (nat_lt n (2 ^ 64)) (Ok (Num n)) (Err (InvalidInteger Overflow))

abbrev answer_of : Text → Result Index ParseIndexError
answer_of s = number_or (first_nondigit s) (digits_value 10 s)

-- the reading of a text
abbrev answer : Text → Result Index ParseIndexError
answer [] = Err (InvalidInteger Empty)
answer (b ∷ []) = cond (nat_eq b 45) (Ok Next) (answer_of (b ∷ []))
answer (b ∷ c ∷ bs) = cond (nat_eq b 48) (Err LeadingZeros) (answer_of (b ∷ c ∷ bs))

answer_of-dec : (i : ℕ) → answer_of (dec i) ≡ cond (nat_lt i (2 ^ 64)) (Ok (Num i)) (Err (InvalidInteger Overflow))
answer_of-dec i = rw (first_nondigit-dec i, digits_value-dec i) refl

answer-dec : (s : Text) (i : ℕ) → s ≡ dec i → answer s ≡ answer_of s
answer-dec [] i e = absurd (dec-not_nil i (sym e))
answer-dec (b ∷ []) i e =
    let first : b ≡ get_or (dec i) 0 0 = ap (λ (t : Text). get_or t 0 0) e in
    let some : 1 ≡ length (dec i) = ap length e in
    let r = range-dec i 0 (omega arith) in
    rw (ne_eqb b 45 (λ is. omega (arith, r.0))) refl
answer-dec (b ∷ c ∷ bs) i e =
    let first : b ≡ get_or (dec i) 0 0 = ap (λ (t : Text). get_or t 0 0) e in
    let long : length (b ∷ c ∷ bs) ≡ length (dec i) = ap length e in
    rw (ne_eqb b 48 (λ is. let l = length-dec_zero i (sym first ∙ is) in omega arith)) refl

answer-number : (s : Text) (i : ℕ) → s ≡ dec i → answer s ≡ cond (nat_lt i (2 ^ 64)) (Ok (Num i)) (Err (InvalidInteger Overflow))
answer-number s i e = answer-dec s i e ∙ ap answer_of e ∙ answer_of-dec i

answer-zeros : (s : Text) → get_or s 0 0 ≡ 48 → 1 < length s → answer s ≡ Err LeadingZeros
answer-zeros [] h l = absurd (omega arith)
answer-zeros (b ∷ []) h l = absurd (omega arith)
answer-zeros (b ∷ c ∷ bs) h l = rw h refl

answer-character : (s : Text) (k : ℕ) → get_or s 0 0 ≢ 48 → s ≢ 45 ∷ [] → first_nondigit s ≡ Some k → answer s ≡ Err (InvalidCharacter k)
answer-character [] k zero next e = let none : first_nondigit [] ≡ None = nothing in cc
answer-character (b ∷ []) k zero next e = rw (ne_eqb b 45 (λ is. next (ap (λ x. x ∷ []) is)), e) refl
answer-character (b ∷ c ∷ bs) k zero next e = rw (ne_eqb b 48 zero, e) refl

-- each reading of a text is that one
reads_answer : (s : Text) (r : Result Index ParseIndexError) → Reads s r → r ≡ answer s
reads_answer s (Ok (Num i)) h = sym (answer-number s i h.0 ∙ rw (lt_true i (2 ^ 64) h.1) refl)
reads_answer s (Ok Next) h = sym (ap answer h)
reads_answer s (Err (InvalidInteger Empty)) h = sym (ap answer h)
reads_answer s (Err (InvalidInteger Overflow)) h = sym (answer-number s h.0 h.1 ∙ rw (lt_false h.0 (2 ^ 64) h.2) refl)
reads_answer s (Err LeadingZeros) h = sym (answer-zeros s h.0 h.1)
reads_answer s (Err (InvalidCharacter k)) h = sym (answer-character s k h.0 h.1 h.2)

pub Reads_one : (s : Text) (r q : Result Index ParseIndexError) → Reads s r → Reads s q → r ≡ q
Reads_one s r q h k = reads_answer s r h ∙ sym (reads_answer s q k)

-- a text of digits that is not a `0` with more after it
reads_digits : (s : Text) → IsUtf8 s → first_nondigit s ≡ None → 0 < length s → (get_or s 0 0 ≡ 48 → length s ≤ 1) → (r : Result Index ParseIndexError) × Reads s r
reads_digits s u none some alone =
    let is : s ≡ dec (digits_value 10 s) = numeral_is s alone (some, digits_from_none s u none) in
    ⊎_elim (λ fits. (Ok (Num (digits_value 10 s)), (is, fits))) (λ over. (Err (InvalidInteger Overflow), (digits_value 10 s, is, over))) (cases_lt (digits_value 10 s) (2 ^ 64))

-- a text that no zero leads
reads_other : (s : Text) → IsUtf8 s → 0 < length s → (get_or s 0 0 ≡ 48 → length s ≤ 1) → s ≢ 45 ∷ [] → (r : Result Index ParseIndexError) × Reads s r
reads_other s u some alone next = at (first_nondigit s) refl
  where
    at : (o : Option ℕ) → first_nondigit s ≡ o → (r : Result Index ParseIndexError) × Reads s r
    at (Some k) e = (Err (InvalidCharacter k), (not_zero s k alone e, next, e))
    at None e = reads_digits s u e some alone

pub Reads_some : (s : Text) → IsUtf8 s → (r : Result Index ParseIndexError) × Reads s r
Reads_some [] u = (Err (InvalidInteger Empty), refl)
Reads_some (b ∷ []) u =
    ⊎_elim (λ (is : b ≡ 45). (Ok Next, ap (λ x. x ∷ []) is)) (λ other. reads_other (b ∷ []) u (omega arith) (λ _. omega arith) (λ e. other (ap (λ (t : Text). get_or t 0 0) e))) (cases_eq b 45)
Reads_some (b ∷ c ∷ bs) u =
    ⊎_elim (λ (is : b ≡ 48). (Err LeadingZeros, (is, omega arith))) (λ other. reads_other (b ∷ c ∷ bs) u (omega arith) (λ zero. absurd (other zero)) (λ e. let l : length (b ∷ c ∷ bs) ≡ 1 = ap length e in omega arith)) (cases_eq b 48)

-- a text and its escape read alike
pub Reads-esc_iff : (s : Text) → IsUtf8 s → (r : Result Index ParseIndexError) → Reads s r ↔ Reads (esc s) r
Reads-esc_iff s u r = (Reads-esc s u r, Reads-unesc s u r)

-- the text of an index is the text that reads as it
pub index_text-Reads : (s : Text) (index : Index) → Reads s (Ok index) → index_text index ≡ s
index_text-Reads s (Num i) h = sym h.0
index_text-Reads s Next h = sym h

-- ---- an index within the bounds of an array

pub within_some : (index : Index) (len : ℕ) → (r : Result ℕ OutOfBoundsError) × IsWithin index len r
within_some (Num i) len =
    ⊎_elim
    (λ (below : i < len). (Ok i, (refl, below)))
    (λ (over : len ≤ i). (Err (record { length = len; index = i }), (over, refl, refl)))
    (cases_lt i len)
within_some Next len = (Err (record { length = len; index = len }), (refl, refl))

pub or_next_some : (index : Index) (len : ℕ) → (r : Result ℕ OutOfBoundsError) × IsWithinOrNext index len r
or_next_some index len =
    ⊎_elim
    (λ (over : len < position_in len index). (Err (record { length = len; index = position_in len index }), (over, refl, refl)))
    (λ (upto : position_in len index ≤ len). (Ok (position_in len index), (refl, upto)))
    (cases_lt len (position_in len index))
