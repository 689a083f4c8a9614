-- A JSON text without white space has no control character, and a JSON string is read as its text.
use Rattle.std.proofs.Common.{◌≡◌, ◌≤◌, ◌<◌, ◌+◌, ℕ, zero, suc, Bool, true, false, cond, ◌&&◌, ◌||◌, ◌==◌, nat_le, inl, inr, List, [], ◌∷◌, ◌++◌, drop, Option, Some, None, option_and_then, refl, sym, ap, subst, ◌∙◌, arith, append-nil, leb-true}
use Rattle.std.specs.List.{All, AllByRecursion, prefix_len}
use Rattle.std.specs.Char.{is_ascii_digit}
use Rattle.std.proofs.lemmas.Bool.{and_parts, or_cases, cases_lt, cases_eq, eqb-true}
use Rattle.std.proofs.lemmas.List.Elements.{All-from_recursion}
use Rattle.json.specs.Token.{Token, begin_object, end_object, begin_array, end_array, key, string, number, boolean, null, bad}
use Rattle.json.specs.Word.{after_digits, after_minus, after_sign, after_whole, after_fraction, after_exponent, after_number, word}
use Rattle.json.specs.Print.{escape_byte, escape, quoted, token_text, begins, ends, separator, print_from, print, IsNumber, IsPrintableOrBad, ArePrintableOrBad, ArePrintable}
use Rattle.json.specs.Lex.{lex, punctuate, tokens}
use Rattle.json.specs.Json.{value, if_last}
use Rattle.json.proofs.Printed.Strings.{escape_byte_plain}
use Rattle.json.proofs.Printed.Tokens.{tokens-print}
use Rattle.json.proofs.Numbered.{ArePrintableOrBad-tokens}
use Rattle.serde_json.specs.Data as json
use Rattle.serde_json.specs.Read.{of_json, max_depth, read}
use Rattle.jsonptr.specs.Text.{Text, text, esc}

-- no byte of t is below 32
abbrev Clear : Text → Type 0
Clear t = AllByRecursion (λ b. 32 ≤ b) t

clear_append : (s t : Text) → Clear s → Clear t → Clear (s ++ t)
clear_append [] t h k = k
clear_append (b ∷ s) t h k = (h.0, clear_append s t h.1 k)

-- strings

abbrev is_clear : List ℕ → Bool
is_clear [] = true
is_clear (x ∷ xs) = nat_le 32 x && is_clear xs

clear_if : (xs : List ℕ) → is_clear xs ≡ true → Clear xs
clear_if [] e = tt
clear_if (x ∷ xs) e = let p = and_parts (nat_le 32 x) (is_clear xs) e in (leb-true 32 x p.0, clear_if xs p.1)

abbrev escapes_below : ℕ → Bool
escapes_below zero = true
escapes_below (suc n) = is_clear (escape_byte n) && escapes_below n

escape_below : (n : ℕ) → escapes_below n ≡ true → (x : ℕ) → x < n → is_clear (escape_byte x) ≡ true
escape_below zero e x h = absurd (omega arith)
escape_below (suc n) e x h =
    let p = and_parts (is_clear (escape_byte n)) (escapes_below n) e in
    elim (cases_eq x n) [
      | inl same ↦ subst (λ (y : ℕ). is_clear (escape_byte y) ≡ true) (sym same) p.0
      | inr other ↦ escape_below n p.1 x (omega arith)
    ]

all_below : escapes_below 93 ≡ true
unfolding escape_byte
all_below = refl

clear_escape_byte : (x : ℕ) → Clear (escape_byte x)
clear_escape_byte x = elim (cases_lt x 93) [
  | inl low ↦ clear_if (escape_byte x) (escape_below 93 all_below x low)
  | inr high ↦ subst Clear (sym (escape_byte_plain x (λ e. omega arith) (λ e. omega arith) (omega arith))) (omega arith, tt)
]

clear_escape : (s : Text) → Clear (escape s)
clear_escape [] = tt
clear_escape (x ∷ s) = clear_append (escape_byte x) (escape s) (clear_escape_byte x) (clear_escape s)

clear_quoted : (s : Text) → Clear (quoted s)
clear_quoted s = (omega arith, clear_append (escape s) (34 ∷ []) (clear_escape s) (omega arith, tt))

pub plain_quoted : (s : Text) → All (λ b. 32 ≤ b) (quoted s)
plain_quoted s = All-from_recursion (λ b. 32 ≤ b) (quoted s) (clear_quoted s)

-- numbers

digit_clear : (x : ℕ) → is_ascii_digit x ≡ true → 32 ≤ x
digit_clear x e = let p = and_parts (nat_le 48 x) (nat_le x 57) e in omega (arith, leb-true 48 x p.0)

either_clear : (x a b : ℕ) → 32 ≤ a → 32 ≤ b → ((x == a) || (x == b)) ≡ true → 32 ≤ x
either_clear x a b h k e = elim (or_cases (x == a) (x == b) e) [
  | inl is ↦ omega (arith, eqb-true x a is)
  | inr is ↦ omega (arith, eqb-true x b is)
]

one_more : (b : Bool) (x : ℕ) (t : Text) → is_ascii_digit x ≡ b → (Clear (drop (prefix_len is_ascii_digit t) t) → Clear t) → Clear (drop (cond b (1 + prefix_len is_ascii_digit t) 0) (x ∷ t)) → Clear (x ∷ t)
one_more false x t e rest h = h
one_more true x t e rest h =
    let next : 1 + prefix_len is_ascii_digit t ≡ suc (prefix_len is_ascii_digit t) = omega arith in
    (digit_clear x e, rest (subst (λ (n : ℕ). Clear (drop n (x ∷ t))) next h))

digits_then : (t : Text) → Clear (drop (prefix_len is_ascii_digit t) t) → Clear t
digits_then [] h = tt
digits_then (x ∷ t) h = one_more (is_ascii_digit x) x t refl (digits_then t) h

-- a byte that is passed over if it passes the test
one_then : (b : Bool) (x : ℕ) (t : Text) → (b ≡ true → 32 ≤ x) → Clear (cond b (drop 1 (x ∷ t)) (x ∷ t)) → Clear (x ∷ t)
one_then true x t ok h = (ok refl, h)
one_then false x t ok h = h

-- the same where nothing else is allowed
some_digits : (b : Bool) (t r : Text) → cond b None (Some (drop (prefix_len is_ascii_digit t) t)) ≡ Some r → Clear r → Clear t
some_digits true t r e h = absurd (let none : ⊥ = cc in none)
some_digits false t r e h = let same : drop (prefix_len is_ascii_digit t) t ≡ r = cc in digits_then t (subst Clear (sym same) h)

minus_then : (t : Text) → Clear (after_minus t) → Clear t
minus_then [] h = tt
minus_then (x ∷ t) h = one_then (x == 45) x t (λ e. omega (arith, eqb-true x 45 e)) h

sign_then : (t : Text) → Clear (after_sign t) → Clear t
sign_then [] h = tt
sign_then (x ∷ t) h = one_then ((x == 45) || (x == 43)) x t (either_clear x 45 43 (omega arith) (omega arith)) h

whole_then : (t r : Text) → after_whole t ≡ Some r → Clear r → Clear t
whole_then [] r e h = tt
whole_then (x ∷ t) r e h = go (x == 48) refl e
  where
    go : (b : Bool) → (x == 48) ≡ b → cond b (Some t) (after_digits (x ∷ t)) ≡ Some r → Clear (x ∷ t)
    go true is e = let same : t ≡ r = cc in (omega (arith, eqb-true x 48 is), subst Clear (sym same) h)
    go false is e = some_digits (prefix_len is_ascii_digit (x ∷ t) == 0) (x ∷ t) r e h

fraction_then : (t r : Text) → after_fraction t ≡ Some r → Clear r → Clear t
fraction_then [] r e h = tt
fraction_then (x ∷ t) r e h = go (x == 46) refl e
  where
    go : (b : Bool) → (x == 46) ≡ b → cond b (after_digits t) (Some (x ∷ t)) ≡ Some r → Clear (x ∷ t)
    go true is e = (omega (arith, eqb-true x 46 is), some_digits (prefix_len is_ascii_digit t == 0) t r e h)
    go false is e = let same : x ∷ t ≡ r = cc in subst Clear (sym same) h

exponent_then : (t r : Text) → after_exponent t ≡ Some r → Clear r → Clear t
exponent_then [] r e h = tt
exponent_then (x ∷ t) r e h = go ((x == 101) || (x == 69)) refl e
  where
    go : (b : Bool) → ((x == 101) || (x == 69)) ≡ b → cond b (after_digits (after_sign t)) (Some (x ∷ t)) ≡ Some r → Clear (x ∷ t)
    go true is e = (either_clear x 101 69 (omega arith) (omega arith) is, sign_then t (some_digits (prefix_len is_ascii_digit (after_sign t) == 0) (after_sign t) r e h))
    go false is e = let same : x ∷ t ≡ r = cc in subst Clear (sym same) h

then_some : (f : Text → Option Text) (o : Option Text) (r : Text) → option_and_then f o ≡ Some r → (t : Text) × (o ≡ Some t) × (f t ≡ Some r)
then_some f None r e = absurd (let none : ⊥ = cc in none)
then_some f (Some t) r e = (t, refl, e)

clear_number : (s : Text) → IsNumber s → Clear s
unfolding after_number
clear_number s h =
    let last = then_some after_exponent (option_and_then after_fraction (after_whole (after_minus s))) [] h in
    let middle = then_some after_fraction (after_whole (after_minus s)) last.0 last.1 in
    minus_then s (whole_then (after_minus s) middle.0 middle.1 (fraction_then middle.0 last.0 middle.2 (exponent_then last.0 [] last.2 tt)))

-- tokens

clear_token : (t : Token) → IsPrintableOrBad t → Clear (token_text t)
clear_token begin_object h = (omega arith, tt)
clear_token end_object h = (omega arith, tt)
clear_token begin_array h = (omega arith, tt)
clear_token end_array h = (omega arith, tt)
clear_token (key s) h = clear_append (quoted s) (58 ∷ []) (clear_quoted s) (omega arith, tt)
clear_token (string s) h = clear_quoted s
clear_token (number s) h = clear_number s h
clear_token (boolean true) h = clear_if (token_text (boolean true)) refl
clear_token (boolean false) h = clear_if (token_text (boolean false)) refl
clear_token null h = clear_if (token_text null) refl
clear_token bad h = tt

clear_comma : (b : Bool) → Clear (cond b (44 ∷ []) [])
clear_comma true = (omega arith, tt)
clear_comma false = tt

clear_print : (c : Bool) (ts : List Token) → ArePrintableOrBad ts → Clear (print_from c ts)
unfolding print_from
clear_print c [] h = tt
clear_print c (t ∷ ts) h = clear_append (separator c t) (token_text t ++ print_from (ends t) ts) (clear_comma (c && begins t)) (clear_append (token_text t) (print_from (ends t) ts) (clear_token t h.0) (clear_print (ends t) ts h.1))

-- a text that is printed without white space
pub plain_printed : (t : Text) → t ≡ print (tokens t) → All (λ b. 32 ≤ b) t
plain_printed t e = All-from_recursion (λ b. 32 ≤ b) t (subst Clear (sym e) (clear_print false (tokens t) (ArePrintableOrBad-tokens t)))

-- what is read

print_one : (s : Text) → print (string s ∷ []) ≡ quoted s
unfolding print_from
print_one s = append-nil (quoted s)

tokens_quoted : (s : Text) → tokens (quoted s) ≡ string s ∷ []
unfolding ArePrintable
tokens_quoted s = ap tokens (sym (print_one s)) ∙ tokens-print (string s ∷ []) (tt, tt)

-- what is read of tokens
abbrev read_tokens : List Token → Option json.Data
read_tokens ts = option_and_then of_json (option_and_then (λ p. if_last p.0 p.1) (value max_depth ts))

-- a JSON string is read as its text
pub read_quoted : (s : Text) → read (quoted s) ≡ Some (json.string s)
unfolding value
read_quoted s = ap read_tokens (tokens_quoted s)

tokens_slash : (t : Text) → tokens (47 ∷ t) ≡ bad ∷ []
unfolding lex punctuate word after_number
tokens_slash t = refl

tokens_nothing : tokens [] ≡ []
unfolding lex punctuate
tokens_nothing = refl

-- the text of a pointer is no JSON
pub read_pointer : (ts : List Text) (d : json.Data) → read (text ts) ≡ Some d → ⊥
unfolding value
read_pointer [] d e = let none : None ≡ Some d = sym (ap read_tokens tokens_nothing) ∙ e in let wrong : ⊥ = cc in wrong
read_pointer (t ∷ ts) d e = let none : None ≡ Some d = sym (ap read_tokens (tokens_slash (esc t ++ text ts))) ∙ e in let wrong : ⊥ = cc in wrong
