-- In a JSON text there is nothing to blank.
use Rattle.std.proofs.Common.{◌≡◌, ◌≢◌, ℕ, zero, suc, ◌≤◌, List, [], ◌∷◌, ◌++◌, Bool, true, false, cond, ◌||◌, ◌&&◌, ◌==◌, Option, Some, None, option_and_then, length, length-append, refl, sym, ap, ap₂, ◌∙◌, subst, arith, inl, inr, ◌⊎◌, eqb-true, ne_eqb}
use Rattle.std.proofs.lemmas.Bool.{true≢false, false≢true, eqb-false, and_right, or_from, or_cases}
use Rattle.json.specs.Token.{Token, begin_object, end_object, begin_array, end_array, key, string as text_token, number, boolean, null, bad}
use Rattle.json.specs.Text.{content, plain}
use Rattle.json.specs.Word.{is_operator, is_space, word}
use Rattle.json.specs.Lex.{Lexeme, token, comma, colon, Class, quote, backslash, operator, space, class, operator_lexeme, string_token, Mode, between, in_word, in_string, in_escape, lex_byte, lex}
use Rattle.json.specs.Lex as lexing
use Rattle.json.specs.Lex.{Place, fresh, after_value, after_comma, after_key, begins_colon, may_begin, may_close, if_allowed, place_token, punctuate, tokens}
use Rattle.json.specs.Align.{is_good}
use Rattle.json.specs.Json.{Json, value, if_last}
use Rattle.json.proofs.Grammar.{left}
use Rattle.jsonptr_comments.specs.Comments.{Piece, string, other, Pieces, value_after, closes, NothingToBlank}
use Rattle.jsonptr_comments.specs.PrivateScanning.{after_string, after_escaped}
use Rattle.jsonptr_comments.proofs.ScanningLemmas.{after_string-is}
use Rattle.jsonptr_comments.proofs.TokenLemmas.{AreGood, value_good}
use Rattle.jsonptr_comments.proofs.WordLemmas.{clean, clean_byte, clean-word}

-- ---- what a class says of a byte

abbrev Facts : Class → Bool → Bool → Bool → Bool → Type 0
Facts quote q b o s = q ≡ true
Facts backslash q b o s = Unit {0}
Facts operator q b o s = o ≡ true
Facts space q b o s = (q ≡ false) × (o ≡ false) × (s ≡ true)
Facts lexing.other q b o s = (q ≡ false) × (o ≡ false) × (s ≡ false)

facts : (q b o s : Bool) → Facts (cond q quote (cond b backslash (cond o operator (cond s space lexing.other)))) q b o s
facts true b o s = refl
facts false true o s = tt
facts false false true s = refl
facts false false false true = (refl, refl, refl)
facts false false false false = (refl, refl, refl)

class_facts : (x : ℕ) (c : Class) → class x ≡ c → Facts c (x == 34) (x == 92) (is_operator x) (is_space x)
class_facts x c e = subst (λ (k : Class). Facts k (x == 34) (x == 92) (is_operator x) (is_space x)) e (facts (x == 34) (x == 92) (is_operator x) (is_space x))

no_operator : (x k : ℕ) → is_operator k ≡ true → is_operator x ≡ false → (x == k) ≡ false
no_operator x k e h = ne_eqb x k (λ f. true≢false (sym (ap is_operator f ∙ e) ∙ h))

-- ---- strings

string_step : (q b o s : Bool) (x : ℕ) (xs : List ℕ) → lex in_string xs ≡ lex between (after_string xs) → lex in_escape xs ≡ lex between (after_escaped xs)
    → lex_byte in_string (cond q quote (cond b backslash (cond o operator (cond s space lexing.other)))) x xs (λ next. lex next xs) ≡ lex between (cond q xs (cond b (after_escaped xs) (after_string xs)))
string_step true b o s x xs f g = refl
string_step false true o s x xs f g = g
string_step false false true s x xs f g = f
string_step false false false true x xs f g = f
string_step false false false false x xs f g = f

in_string_is : (xs : List ℕ) → (lex in_string xs ≡ lex between (after_string xs)) × (lex in_escape xs ≡ lex between (after_escaped xs))
unfolding lex
in_string_is [] = (refl, refl)
in_string_is (x ∷ xs) = let h = in_string_is xs in (string_step (x == 34) (x == 92) (is_operator x) (is_space x) x xs h.0 h.1, h.0)

-- ---- words

abbrev AreWord : List ℕ → Type 0
AreWord [] = Unit {0}
AreWord (x ∷ w) = (class x ≡ lexing.other) × ((x == 47) ≡ false) × AreWord w

-- the text xs goes on with the rest w of a word, and what follows it is `rest`
abbrev HasWord : List ℕ → List Lexeme → Type 0
HasWord xs ls = (w rest : List ℕ) × (xs ≡ w ++ rest) × (ls ≡ lex between rest) × AreWord w

word_byte : (c : Class) (l : Bool) (x : ℕ) (xs : List ℕ) → class x ≡ c → (x == 47) ≡ l → clean_byte c l (clean xs) ≡ true → (clean xs ≡ true → HasWord xs (lex in_word xs)) → HasWord (x ∷ xs) (lex_byte in_word c x xs (λ next. lex next xs))
unfolding lex
word_byte quote l x xs e f h next = absurd (false≢true h)
word_byte backslash l x xs e f h next = absurd (false≢true h)
word_byte operator l x xs e f h next = ([], x ∷ xs, refl, ap (λ d. lex_byte between d x xs (λ m. lex m xs)) (sym e), tt)
word_byte space l x xs e f h next = ([], x ∷ xs, refl, ap (λ d. lex_byte between d x xs (λ m. lex m xs)) (sym e), tt)
word_byte lexing.other true x xs e f h next = absurd (false≢true h)
word_byte lexing.other false x xs e f h next = let k = next h in (x ∷ k.0, k.1, ap (λ t. x ∷ t) k.2, k.3, (e, f, k.4))

has_word : (xs : List ℕ) → clean xs ≡ true → HasWord xs (lex in_word xs)
unfolding lex
has_word [] h = ([], [], refl, refl, tt)
has_word (x ∷ xs) h = word_byte (class x) (x == 47) x xs refl refl h (has_word xs)

-- ---- commas and brackets

punctuate_token : (p : Place) (t : Token) (ls : List Lexeme) → punctuate p (token t ∷ ls) ≡ place_token p t (begins_colon ls) (λ next. punctuate next ls)
unfolding punctuate
punctuate_token fresh t ls = refl
punctuate_token after_value t ls = refl
punctuate_token after_comma t ls = refl
punctuate_token after_key t ls = refl

-- a good token: good ones follow it, and if it closes, the place allows that
abbrev Follows : Place → Token → (Place → List Token) → Type 0
Follows p t k = ((next : Place) × AreGood (k next)) × (is_good t ≡ true)

allowed : (b : Bool) (t : Token) (k : Place → List Token) (next : Place) → AreGood (if_allowed b t k next) → (b ≡ true) × AreGood (k next)
allowed true t k next h = (refl, h.1)
allowed false t k next h = absurd (false≢true h.0)

placed : (p : Place) (t : Token) (b : Bool) (k : Place → List Token) → AreGood (place_token p t b k) → Follows p t k
placed p begin_object b k h = ((fresh, (allowed (may_begin p) begin_object k fresh h).1), refl)
placed p end_object b k h = ((after_value, (allowed (may_close p) end_object k after_value h).1), refl)
placed p begin_array b k h = ((fresh, (allowed (may_begin p) begin_array k fresh h).1), refl)
placed p end_array b k h = ((after_value, (allowed (may_close p) end_array k after_value h).1), refl)
placed p (key s) b k h = absurd (false≢true h.0)
placed p (text_token s) true k h = ((after_key, (allowed (may_begin p) (key s) k after_key h).1), refl)
placed p (text_token s) false k h = ((after_value, (allowed (may_begin p) (text_token s) k after_value h).1), refl)
placed p (number s) b k h = ((after_value, (allowed (may_begin p) (number s) k after_value h).1), refl)
placed p (boolean c) b k h = ((after_value, (allowed (may_begin p) (boolean c) k after_value h).1), refl)
placed p null b k h = ((after_value, (allowed (may_begin p) null k after_value h).1), refl)
placed p bad b k h = absurd (false≢true h.0)

token_first : (p : Place) (t : Token) (ls : List Lexeme) → AreGood (punctuate p (token t ∷ ls)) → ((next : Place) × AreGood (punctuate next ls)) × (is_good t ≡ true)
token_first p t ls h = placed p t (begins_colon ls) (λ next. punctuate next ls) (subst AreGood (punctuate_token p t ls) h)

close_first : (p : Place) (t : Token) (ls : List Lexeme) → (t ≡ end_object) ⊎ (t ≡ end_array) → AreGood (punctuate p (token t ∷ ls)) → may_close p ≡ true
close_first p t ls (inl e) h =
    (allowed (may_close p) end_object (λ next. punctuate next ls) after_value (subst AreGood (punctuate_token p end_object ls) (subst (λ (u : Token). AreGood (punctuate p (token u ∷ ls))) e h))).0
close_first p t ls (inr e) h =
    (allowed (may_close p) end_array (λ next. punctuate next ls) after_value (subst AreGood (punctuate_token p end_array ls) (subst (λ (u : Token). AreGood (punctuate p (token u ∷ ls))) e h))).0

comma_first : (p : Place) (ls : List Lexeme) → AreGood (punctuate p (comma ∷ ls)) → AreGood (punctuate after_comma ls)
unfolding punctuate
comma_first fresh ls h = absurd (false≢true h.0)
comma_first after_value ls h = h
comma_first after_comma ls h = absurd (false≢true h.0)
comma_first after_key ls h = absurd (false≢true h.0)

colon_first : (p : Place) (ls : List Lexeme) → AreGood (punctuate p (colon ∷ ls)) → AreGood (punctuate fresh ls)
unfolding punctuate
colon_first fresh ls h = absurd (false≢true h.0)
colon_first after_value ls h = absurd (false≢true h.0)
colon_first after_comma ls h = absurd (false≢true h.0)
colon_first after_key ls h = h

kept_comma : (d b c : Bool) → (d ≡ true → c ≡ false) → (d && b && c) ≡ false
kept_comma false b c h = refl
kept_comma true b c h = and_right b c (h refl)

off_comma : (d c : Bool) → d ≡ false → d ≡ true → c ≡ false
off_comma d c e f = absurd (false≢true (sym e ∙ f))

passed : (l b : Bool) → cond l false b ≡ true → (l ≡ false) × (b ≡ true)
passed true b h = absurd (false≢true h)
passed false b h = (refl, h)

only : (ts : List Token) (i j : Json) → if_last i ts ≡ Some j → Some ts ≡ Some []
only [] i j e = refl
only (t ∷ ts) i j e = absurd (let wrong : ⊥ = cc in wrong)

-- ---- the pieces of a JSON text

-- pieces of t in which there is nothing to blank; after a comma or a colon no closing bracket comes first
abbrev pub Clean : Place → List ℕ → Type 0
Clean p t = (ps : List Piece) × Pieces t ps [] × ((b : Bool) → NothingToBlank b ps) × (may_close p ≡ false → closes ps false ≡ false)

clean_other : (x : ℕ) (xs : List ℕ) (p next : Place) (c : Clean next xs) → x ≢ 34 → x ≢ 47 → ((x == 44) ≡ true → closes c.0 false ≡ false) → (may_close p ≡ false → closes (other x ∷ c.0) false ≡ false) → Clean p (x ∷ xs)
clean_other x xs p next c q s unless closing =
    (other x ∷ c.0, (xs, refl, (q, λ e. absurd (s e)), c.1), (λ b. (kept_comma (x == 44) b (closes c.0 false) unless, c.2 (value_after b (other x)))), closing)

word_pieces : (w rest : List ℕ) (p : Place) → AreWord w → Clean p rest → (ps : List Piece) × Pieces (w ++ rest) ps [] × ((b : Bool) → NothingToBlank b ps)
word_pieces [] rest p h c = (c.0, c.1, c.2)
word_pieces (x ∷ w) rest p h c =
    let more = word_pieces w rest p h.2 c in
    let f = class_facts x lexing.other h.0 in
    let no = no_operator x 44 refl f.1 in
    (other x ∷ more.0, (w ++ rest, refl, (eqb-false x 34 f.0, λ e. absurd (eqb-false x 47 h.1 e)), more.1), (λ b. (kept_comma (x == 44) b (closes more.0 false) (off_comma (x == 44) (closes more.0 false) no), more.2 (value_after b (other x)))))

abbrev Later : ℕ → Type 0
Later n = (t : List ℕ) → length t ≤ n → (p : Place) → AreGood (punctuate p (lex between t)) → Clean p t

quote_case : (n x : ℕ) (xs : List ℕ) (p : Place) → Later n → length xs ≤ n → x ≡ 34 → AreGood (punctuate p (token (string_token (content plain xs)) ∷ lex in_string xs)) → Clean p (x ∷ xs)
quote_case n x xs p later l e h =
    let next = (token_first p (string_token (content plain xs)) (lex in_string xs) h).0 in
    let s = after_string-is xs in
    let good = subst (λ (ls : List Lexeme). AreGood (punctuate next.0 ls)) (in_string_is xs).0 next.1 in
    let c = later (after_string xs) (omega (arith, ap length s.1, length-append s.0 (after_string xs))) next.0 good in
    (string s.0 ∷ c.0, (after_string xs, ap₂ (λ b t. b ∷ t) e s.1, s.2, c.1), (λ b. c.2 true), (λ _. refl))

word_case : (n x : ℕ) (xs : List ℕ) (p : Place) → Later n → length xs ≤ n → class x ≡ lexing.other → AreGood (punctuate p (token (word (x ∷ xs)) ∷ lex in_word xs)) → Clean p (x ∷ xs)
word_case n x xs p later l e h =
    let first = token_first p (word (x ∷ xs)) (lex in_word xs) h in
    let next = first.0 in
    let whole : clean_byte lexing.other (x == 47) (clean xs) ≡ true = ap (λ d. clean_byte d (x == 47) (clean xs)) (sym e) ∙ clean-word (x ∷ xs) first.1 in
    let parts = passed (x == 47) (clean xs) whole in
    let w = has_word xs parts.1 in
    let good = subst (λ (ls : List Lexeme). AreGood (punctuate next.0 ls)) w.3 next.1 in
    let c = later w.1 (omega (arith, ap length w.2, length-append w.0 w.1)) next.0 good in
    let more = word_pieces w.0 w.1 next.0 w.4 c in
    let f = class_facts x lexing.other e in
    let no = no_operator x 44 refl f.1 in
    let closing = or_from (x == 93) (x == 125) (no_operator x 93 refl f.1) (no_operator x 125 refl f.1) in (
      other x ∷ more.0,
      (xs, refl, (eqb-false x 34 f.0, λ g. absurd (eqb-false x 47 parts.0 g)), subst (λ (t : List ℕ). Pieces t more.0 []) (sym w.2) more.1),
      (λ b. (kept_comma (x == 44) b (closes more.0 false) (off_comma (x == 44) (closes more.0 false) no), more.2 (value_after b (other x)))),
      (λ _. ap₂ (λ u v. cond u (closes more.0 false) v) f.2 closing),
    )

space_case : (n x : ℕ) (xs : List ℕ) (p : Place) → Later n → length xs ≤ n → class x ≡ space → AreGood (punctuate p (lex between xs)) → Clean p (x ∷ xs)
space_case n x xs p later l e h =
    let f = class_facts x space e in
    let c = later xs l p h in
    let no = no_operator x 44 refl f.1 in
    clean_other x xs p p c (eqb-false x 34 f.0) (λ g. true≢false (sym f.2 ∙ ap is_space g)) (λ g. absurd (false≢true (sym no ∙ g)))
    (λ g. ap (λ u. cond u (closes c.0 false) ((x == 93) || (x == 125))) f.2 ∙ c.3 g)

abbrev Operator : ℕ → Type 0
Operator x = (n : ℕ) (xs : List ℕ) (p : Place) → Later n → length xs ≤ n → AreGood (punctuate p (operator_lexeme x ∷ lex between xs)) → Clean p (x ∷ xs)

open_object : Operator 123
open_object n xs p later l h =
    let next = (token_first p begin_object (lex between xs) h).0 in
    clean_other 123 xs p next.0 (later xs l next.0 next.1) (λ e. omega (arith, e)) (λ e. omega (arith, e)) (λ e. absurd (false≢true e)) (λ _. refl)

open_array : Operator 91
open_array n xs p later l h =
    let next = (token_first p begin_array (lex between xs) h).0 in
    clean_other 91 xs p next.0 (later xs l next.0 next.1) (λ e. omega (arith, e)) (λ e. omega (arith, e)) (λ e. absurd (false≢true e)) (λ _. refl)

close_object : Operator 125
close_object n xs p later l h =
    let next = (token_first p end_object (lex between xs) h).0 in
    clean_other 125 xs p next.0 (later xs l next.0 next.1) (λ e. omega (arith, e)) (λ e. omega (arith, e)) (λ e. absurd (false≢true e))
    (λ e. absurd (true≢false (sym (close_first p end_object (lex between xs) (inl refl) h) ∙ e)))

close_array : Operator 93
close_array n xs p later l h =
    let next = (token_first p end_array (lex between xs) h).0 in
    clean_other 93 xs p next.0 (later xs l next.0 next.1) (λ e. omega (arith, e)) (λ e. omega (arith, e)) (λ e. absurd (false≢true e))
    (λ e. absurd (true≢false (sym (close_first p end_array (lex between xs) (inr refl) h) ∙ e)))

a_colon : Operator 58
a_colon n xs p later l h =
    clean_other 58 xs p fresh (later xs l fresh (colon_first p (lex between xs) h)) (λ e. omega (arith, e)) (λ e. omega (arith, e)) (λ e. absurd (false≢true e)) (λ _. refl)

a_comma : Operator 44
a_comma n xs p later l h =
    let c = later xs l after_comma (comma_first p (lex between xs) h) in
    clean_other 44 xs p after_comma c (λ e. omega (arith, e)) (λ e. omega (arith, e)) (λ e. c.3 refl) (λ _. refl)

at_last : (P : ℕ → Type 0) (x k : ℕ) (b : Bool) → (b ≡ true → P x) → P k → (b || (x == k)) ≡ true → P x
at_last P x k b f p h = elim (or_cases b (x == k) h) [ inl e ↦ f e | inr e ↦ subst P (sym (eqb-true x k e)) p ]

an_operator : (x : ℕ) → is_operator x ≡ true → Operator x
an_operator x =
    at_last Operator x 44 ((x == 123) || (x == 125) || (x == 91) || (x == 93) || (x == 58))
    (at_last Operator x 58 ((x == 123) || (x == 125) || (x == 91) || (x == 93))
    (at_last Operator x 93 ((x == 123) || (x == 125) || (x == 91))
    (at_last Operator x 91 ((x == 123) || (x == 125)) (at_last Operator x 125 (x == 123) (λ e. subst Operator (sym (eqb-true x 123 e)) open_object) close_object) open_array) close_array) a_colon) a_comma

by_class : (c : Class) (n x : ℕ) (xs : List ℕ) (p : Place) → class x ≡ c → Later n → length xs ≤ n → AreGood (punctuate p (lex_byte between c x xs (λ next. lex next xs))) → Clean p (x ∷ xs)
by_class quote n x xs p e later l h = quote_case n x xs p later l (eqb-true x 34 (class_facts x quote e)) h
by_class backslash n x xs p e later l h = absurd (false≢true (token_first p bad (lex in_word xs) h).1)
by_class operator n x xs p e later l h = an_operator x (class_facts x operator e) n xs p later l h
by_class space n x xs p e later l h = space_case n x xs p later l e h
by_class lexing.other n x xs p e later l h = word_case n x xs p later l e h

json_pieces : (n : ℕ) → Later n
unfolding lex
json_pieces n [] l p h = ([], refl, λ b. tt, λ _. refl)
json_pieces zero (x ∷ xs) l p h = absurd (omega arith)
json_pieces (suc n) (x ∷ xs) l p h = by_class (class x) n x xs p refl (json_pieces n) (omega arith) h

-- ---- what is read

last_is : (o : Option (Json × List Token)) (j : Json) → option_and_then (λ q. if_last q.0 q.1) o ≡ Some j → left o ≡ Some []
last_is None j e = absurd (let wrong : ⊥ = cc in wrong)
last_is (Some q) j e = only q.1 q.0 j e

pub json_clean : (text : List ℕ) (depth : ℕ) (j : Json) → option_and_then (λ q. if_last q.0 q.1) (value depth (tokens text)) ≡ Some j → Clean fresh text
json_clean text depth j e = json_pieces (length text) text (omega arith) fresh (value_good depth (tokens text) [] (last_is (value depth (tokens text)) j e) tt)
