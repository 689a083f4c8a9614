-- The decimal text of a number.
use Rattle.std.proofs.Common.{◌≡◌, ℕ, ◌+◌, ◌*◌, ◌/◌, ◌%◌, ◌^◌, ◌<◌, ◌≤◌, ◌≢◌, ◌⊎◌, List, [], ◌∷◌, ◌++◌, map, length, slice_index, append_assoc, append-nil, arith, refl, sym, ap, ap₂, ◌∙◌, subst, inl, inr, ⊎_elim, IsAscii, IsUtf8, chars, decimal, lit<}
use Rattle.std.proofs.lemmas.Bool.{cases_eq, cases_lt, ne_eqb}
use Rattle.std.proofs.lemmas.List.{length-map, get_or-map, get_or_past}
use Rattle.std.proofs.lemmas.Str.{digit_value_digit, IsUtf8-from_ascii, chars-IsAscii}
use Rattle.std.proofs.lemmas.Str.Parse.{digit_at, digit_from_value}
use Rattle.std.proofs.lemmas.Int.Digits.{digits_value_is, number_digits_of, all_below_base_digits_of, all_below_base_from_digits, first_digits_of, digits_of_step, length-digits_of_step, length-digits_of-le, number_after_ge}
use Rattle.std.proofs.lemmas.Fmt.{decimal-digits_of, decimal_digit}
use Rattle.std.specs.Int.Digits.{digits_of, number_from_digits, number_from_digits_after, AllBelowBase}
use Rattle.std.specs.Str.Parse.{AllDigits, digits_value}
use Rattle.std.specs.Char.{digit_value}
use Rattle.std.specs.Int.{IsInRange}
use Rattle.jsonptr_grammar.specs.Text.{Text, dec, esc, unesc}
use Rattle.jsonptr_grammar.specs.Grammar.{IsToken}
use Rattle.jsonptr_grammar.proofs.EscapeLemmas.{esc-plain_at, unesc-plain_at, IsToken-plain_at}

-- a number above 0 is written by its digits
pub dec-digits_of : (n : ℕ) → 0 < n → dec n ≡ map (λ d. 48 + d) (digits_of 10 n)
dec-digits_of n h = rw (ne_eqb n 0 (λ e. omega arith))

-- a digit and its byte
digit_value-byte : (d : ℕ) → d < 10 → digit_value (48 + d) ≡ d
digit_value-byte d h = let e = digit_value_digit (48 + d) (omega arith, omega arith) in omega arith

byte-digit_value : (c : ℕ) → digit_value c < 10 → 48 + digit_value c ≡ c
byte-digit_value c h = let e = digit_value_digit c (digit_from_value c h) in omega arith

AllDigits-map : (ds : List ℕ) → AllBelowBase 10 ds → AllDigits 10 (map (λ d. 48 + d) ds)
AllDigits-map [] h = tt
AllDigits-map (d ∷ ds) h = let e = digit_value-byte d h.0 in (omega (arith, h.0), AllDigits-map ds h.1)

map_digit_values : (ds : List ℕ) → AllBelowBase 10 ds → map digit_value (map (λ d. 48 + d) ds) ≡ ds
map_digit_values [] h = refl
map_digit_values (d ∷ ds) h = ap₂ (λ (x : ℕ) (xs : List ℕ). x ∷ xs) (digit_value-byte d h.0) (map_digit_values ds h.1)

map_bytes : (cs : List ℕ) → AllDigits 10 cs → map (λ d. 48 + d) (map digit_value cs) ≡ cs
map_bytes [] h = refl
map_bytes (c ∷ cs) h = ap₂ (λ (x : ℕ) (xs : List ℕ). x ∷ xs) (byte-digit_value c h.0) (map_bytes cs h.1)

-- how to show a fact of every number: of 0, and of those above
by_zero : (P : ℕ → Type 0) (n : ℕ) → P 0 → (0 < n → P n) → P n
by_zero P n z more = ⊎_elim (λ e. subst P (sym e) z) (λ h. more (omega arith)) (cases_eq n 0)

-- each byte of a decimal text is a digit
pub AllDigits-dec : (n : ℕ) → AllDigits 10 (dec n)
AllDigits-dec n = by_zero (λ m. AllDigits 10 (dec m)) n (lit< tt, tt) (λ h. subst (AllDigits 10) (sym (dec-digits_of n h)) (AllDigits-map (digits_of 10 n) (all_below_base_digits_of 10 n (omega arith))))

-- the same, by offsets
pub range-dec : (n k : ℕ) → k < length (dec n) → IsInRange 48 57 (slice_index (dec n) k)
range-dec n k l = digit_at (dec n) k (AllDigits-dec n) l

-- a decimal text has its number as its value
pub digits_value-dec : (n : ℕ) → digits_value 10 (dec n) ≡ n
digits_value-dec n = by_zero (λ m. digits_value 10 (dec m) ≡ m) n refl (λ h. ap (digits_value 10) (dec-digits_of n h) ∙ digits_value_is 10 (map (λ d. 48 + d) (digits_of 10 n)) ∙ ap (number_from_digits 10) (map_digit_values (digits_of 10 n) (all_below_base_digits_of 10 n (omega arith))) ∙ number_digits_of 10 n (omega arith))

-- numbers with one decimal text are equal
pub dec_one : (i j : ℕ) → dec i ≡ dec j → i ≡ j
dec_one i j e = sym (digits_value-dec i) ∙ ap (digits_value 10) e ∙ digits_value-dec j

length-dec_digits : (n : ℕ) → 0 < n → length (dec n) ≡ length (digits_of 10 n)
length-dec_digits n h = ap length (dec-digits_of n h) ∙ length-map (digits_of 10 n) (λ d. 48 + d)

-- a decimal text is not empty
pub length-dec_pos : (n : ℕ) → 0 < length (dec n)
length-dec_pos n = by_zero (λ m. 0 < length (dec m)) n (omega arith) (λ h. omega (arith, length-dec_digits n h, length-digits_of_step 10 n (omega arith) h))

-- so it is not the empty text
pub dec-not_nil : (n : ℕ) → dec n ≢ []
dec-not_nil n e = let h = length-dec_pos n in let k : length (dec n) ≡ 0 = ap length e in omega arith

-- at most k digits below 10 ^ k
pub length-dec-le : (k n : ℕ) → 0 < k → n < 10 ^ k → length (dec n) ≤ k
length-dec-le k n p h = by_zero (λ m. m < 10 ^ k → length (dec m) ≤ k) n (λ _. omega arith) (λ z _. let e = length-dec_digits n z in let f = length-digits_of-le 10 k n (omega arith) h in omega arith) h

-- only the decimal text of 0 begins with `0`
pub dec_first : (n : ℕ) → slice_index (dec n) 0 ≡ 48 → n ≡ 0
dec_first n = by_zero (λ m. slice_index (dec m) 0 ≡ 48 → m ≡ 0) n (λ _. refl) (λ h e.
    let len = length-dec_digits n h in
    let pos = length-dec_pos n in
    let first = first_digits_of 10 n (omega arith) h in
    let read = get_or-map (λ d. 48 + d) (digits_of 10 n) 0 0 0 (omega arith) in
    let same : slice_index (dec n) 0 ≡ slice_index (map (λ d. 48 + d) (digits_of 10 n)) 0 = ap (λ (x : List ℕ). slice_index x 0) (dec-digits_of n h) in
    absurd (omega arith))

-- so a decimal text that begins with `0` has no other byte
pub length-dec_zero : (n : ℕ) → slice_index (dec n) 0 ≡ 48 → length (dec n) ≡ 1
length-dec_zero n e = ap (λ (m : ℕ). length (dec m)) (dec_first n e)

-- the digits of a number above 0, with more after them
digits_of-more : (n : ℕ) (ds : List ℕ) → 0 < n → AllBelowBase 10 ds → digits_of 10 (number_from_digits_after 10 n ds) ≡ digits_of 10 n ++ ds
digits_of-more n [] h b = sym (append-nil (digits_of 10 n))
digits_of-more n (d ∷ ds) h b =
    let low = b.0 in
    let q : (n * 10 + d) / 10 ≡ n = omega arith in
    let r : (n * 10 + d) % 10 ≡ d = omega arith in
    let step : digits_of 10 (n * 10 + d) ≡ digits_of 10 n ++ d ∷ [] = digits_of_step 10 (n * 10 + d) (omega arith) (omega arith) ∙ ap₂ (λ (x y : ℕ). digits_of 10 x ++ y ∷ []) q r in
    digits_of-more (n * 10 + d) ds (omega arith) b.1 ∙ ap (λ (x : List ℕ). x ++ ds) step ∙ append_assoc (digits_of 10 n) (d ∷ []) ds

digits_of-one : (d : ℕ) → 0 < d → d < 10 → digits_of 10 d ≡ d ∷ []
digits_of-one d p l =
    let q : d / 10 ≡ 0 = omega arith in
    let r : d % 10 ≡ d = omega arith in
    digits_of_step 10 d (omega arith) p ∙ ap₂ (λ (x y : ℕ). digits_of 10 x ++ y ∷ []) q r

-- digits that do not begin with `0` are the decimal text of their number
pub dec-digits_value : (s : Text) → AllDigits 10 s → 0 < length s → slice_index s 0 ≢ 48 → dec (digits_value 10 s) ≡ s
dec-digits_value [] a p n = absurd (omega arith)
dec-digits_value (c ∷ cs) a p n =
    let d = byte-digit_value c a.0 in
    let low = a.0 in
    let some : 0 < digit_value c = grind arith in
    let below = all_below_base_from_digits 10 cs a.1 in
    let value : digits_value 10 (c ∷ cs) ≡ number_from_digits_after 10 (digit_value c) (map digit_value cs) = digits_value_is 10 (c ∷ cs) ∙ ap (λ (x : ℕ). number_from_digits_after 10 x (map digit_value cs)) (omega arith) in
    let high = number_after_ge 10 (digit_value c) (map digit_value cs) (omega arith) in
    let digits : digits_of 10 (digits_value 10 (c ∷ cs)) ≡ digit_value c ∷ map digit_value cs = ap (digits_of 10) value ∙ digits_of-more (digit_value c) (map digit_value cs) some below ∙ ap (λ (x : List ℕ). x ++ map digit_value cs) (digits_of-one (digit_value c) some low) in
    dec-digits_of (digits_value 10 (c ∷ cs)) (omega arith) ∙ ap (map (λ d. 48 + d)) digits ∙ map_bytes (c ∷ cs) a

-- digits without a leading zero, or `0` alone, are the decimal text of a number
pub dec_from_digits : (s : Text) → AllDigits 10 s → 0 < length s → (slice_index s 0 ≢ 48) ⊎ (s ≡ 48 ∷ []) → s ≡ dec (digits_value 10 s)
dec_from_digits s a p z = ⊎_elim (λ n. sym (dec-digits_value s a p n)) (λ (e : s ≡ 48 ∷ []). e ∙ sym (ap (λ (x : Text). dec (digits_value 10 x)) e)) z

-- the same, with the case of `0` decided by the length
pub dec_from_digits_length : (s : Text) → AllDigits 10 s → 0 < length s → (slice_index s 0 ≢ 48) ⊎ (length s ≡ 1) → s ≡ dec (digits_value 10 s)
dec_from_digits_length s a p z = ⊎_elim (λ e. dec_from_digits s a p (inr (alone s z p e))) (λ n. dec_from_digits s a p (inl n)) (cases_eq (slice_index s 0) 48)
  where
    alone : (u : Text) → (slice_index u 0 ≢ 48) ⊎ (length u ≡ 1) → 0 < length u → slice_index u 0 ≡ 48 → u ≡ 48 ∷ []
    alone [] z p e = absurd (omega arith)
    alone (c ∷ []) z p e = ap (λ (x : ℕ). x ∷ []) e
    alone (c ∷ d ∷ u) z p e = absurd (⊎_elim (λ n. n e) (λ (l : length (c ∷ d ∷ u) ≡ 1). omega arith) z)

-- a decimal text is its own escape
pub esc-dec : (n : ℕ) → esc (dec n) ≡ dec n
esc-dec n = esc-plain_at (dec n) (λ k l e. let r = range-dec n k l in omega (arith, r.1)) (λ k l e. let r = range-dec n k l in omega (arith, r.0))

-- a decimal text is its own unescape
pub unesc-dec : (n : ℕ) → unesc (dec n) ≡ dec n
unesc-dec n = unesc-plain_at (dec n) (λ k l e. let r = range-dec n k l in omega (arith, r.1))

-- a decimal text is a token
pub IsToken-dec : (n : ℕ) → IsToken (dec n)
IsToken-dec n = IsToken-plain_at (dec n) (λ k l e. let r = range-dec n k l in omega (arith, r.1)) (λ k l e. let r = range-dec n k l in omega (arith, r.0))

-- a decimal text is ASCII
pub IsAscii-dec : (n : ℕ) → IsAscii (dec n)
IsAscii-dec n i = ⊎_elim (λ l. let r = range-dec n i l in omega (arith, r.1)) (λ l. omega (arith, get_or_past (dec n) i 0 l)) (cases_lt i (length (dec n)))

-- a decimal text is UTF-8
pub IsUtf8-dec : (n : ℕ) → IsUtf8 (dec n)
IsUtf8-dec n = IsUtf8-from_ascii (dec n) (IsAscii-dec n)

-- the characters of a decimal text are its bytes
pub chars-dec : (n : ℕ) → chars (dec n) ≡ dec n
chars-dec n = chars-IsAscii (dec n) (IsAscii-dec n)

-- what `{n}` writes of a number of 64 bits is its decimal text
pub dec-decimal : (n : ℕ) → n < 2 ^ 64 → dec n ≡ decimal n
dec-decimal n h = by_zero (λ m. m < 2 ^ 64 → dec m ≡ decimal m) n (λ _. sym (decimal_digit 0 (omega arith))) (λ p _. dec-digits_of n p ∙ sym (decimal-digits_of n p h)) h
