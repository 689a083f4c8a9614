-- A text of n bytes has at most n + 1 tokens.
use Rattle.std.proofs.Common.{ℕ, suc, ◌≤◌, List, [], ◌∷◌, length, Bool, true, false, arith}
use Rattle.json.specs.Token.{Token, begin_object, end_object, begin_array, end_array, key, string, number, boolean, null, bad}
use Rattle.json.specs.Lex.{Lexeme, token, comma, colon, Class, quote, backslash, operator, space, other, class, Mode, between, in_word, in_string, in_escape, lex_byte, lex, Place, fresh, after_value, after_comma, after_key, may_begin, may_close, begins_colon, if_allowed, place_token, punctuate, tokens}

byte_few : (m : Mode) (c : Class) (x : ℕ) (xs : List ℕ) (k : Mode → List Lexeme) (n : ℕ) → ((next : Mode) → length (k next) ≤ n) → length (lex_byte m c x xs k) ≤ suc n
byte_few between quote x xs k n h = let few = h in_string in omega arith
byte_few between backslash x xs k n h = let few = h in_word in omega arith
byte_few between operator x xs k n h = let few = h between in omega arith
byte_few between space x xs k n h = let few = h between in omega arith
byte_few between other x xs k n h = let few = h in_word in omega arith
byte_few in_word quote x xs k n h = let few = h in_word in omega arith
byte_few in_word backslash x xs k n h = let few = h in_word in omega arith
byte_few in_word operator x xs k n h = let few = h between in omega arith
byte_few in_word space x xs k n h = let few = h between in omega arith
byte_few in_word other x xs k n h = let few = h in_word in omega arith
byte_few in_string quote x xs k n h = let few = h between in omega arith
byte_few in_string backslash x xs k n h = let few = h in_escape in omega arith
byte_few in_string operator x xs k n h = let few = h in_string in omega arith
byte_few in_string space x xs k n h = let few = h in_string in omega arith
byte_few in_string other x xs k n h = let few = h in_string in omega arith
byte_few in_escape c x xs k n h = let few = h in_string in omega arith

lexemes_few : (m : Mode) (xs : List ℕ) → length (lex m xs) ≤ length xs
unfolding lex
lexemes_few m [] = omega arith
lexemes_few m (x ∷ xs) = byte_few m (class x) x xs (λ next. lex next xs) (length xs) (λ next. lexemes_few next xs)

allowed_few : (b : Bool) (t : Token) (k : Place → List Token) (next : Place) (n : ℕ) → ((q : Place) → length (k q) ≤ n) → length (if_allowed b t k next) ≤ suc n
allowed_few true t k next n h = let few = h next in omega arith
allowed_few false t k next n h = omega arith

placed_few : (p : Place) (t : Token) (b : Bool) (k : Place → List Token) (n : ℕ) → ((q : Place) → length (k q) ≤ n) → length (place_token p t b k) ≤ suc n
placed_few p begin_object b k n h = allowed_few (may_begin p) begin_object k fresh n h
placed_few p end_object b k n h = allowed_few (may_close p) end_object k after_value n h
placed_few p begin_array b k n h = allowed_few (may_begin p) begin_array k fresh n h
placed_few p end_array b k n h = allowed_few (may_close p) end_array k after_value n h
placed_few p (key s) b k n h = omega arith
placed_few p (string s) true k n h = allowed_few (may_begin p) (key s) k after_key n h
placed_few p (string s) false k n h = allowed_few (may_begin p) (string s) k after_value n h
placed_few p (number s) b k n h = allowed_few (may_begin p) (number s) k after_value n h
placed_few p (boolean c) b k n h = allowed_few (may_begin p) (boolean c) k after_value n h
placed_few p null b k n h = allowed_few (may_begin p) null k after_value n h
placed_few p bad b k n h = omega arith

punctuated_few : (p : Place) (ls : List Lexeme) → length (punctuate p ls) ≤ suc (length ls)
unfolding punctuate
punctuated_few fresh [] = omega arith
punctuated_few after_value [] = omega arith
punctuated_few after_comma [] = omega arith
punctuated_few after_key [] = omega arith
punctuated_few fresh (token t ∷ ls) = placed_few fresh t (begins_colon ls) (λ next. punctuate next ls) (suc (length ls)) (λ next. punctuated_few next ls)
punctuated_few after_value (token t ∷ ls) = placed_few after_value t (begins_colon ls) (λ next. punctuate next ls) (suc (length ls)) (λ next. punctuated_few next ls)
punctuated_few after_comma (token t ∷ ls) = placed_few after_comma t (begins_colon ls) (λ next. punctuate next ls) (suc (length ls)) (λ next. punctuated_few next ls)
punctuated_few after_key (token t ∷ ls) = placed_few after_key t (begins_colon ls) (λ next. punctuate next ls) (suc (length ls)) (λ next. punctuated_few next ls)
punctuated_few fresh (comma ∷ ls) = omega arith
punctuated_few after_value (comma ∷ ls) = let few = punctuated_few after_comma ls in omega arith
punctuated_few after_comma (comma ∷ ls) = omega arith
punctuated_few after_key (comma ∷ ls) = omega arith
punctuated_few fresh (colon ∷ ls) = omega arith
punctuated_few after_value (colon ∷ ls) = omega arith
punctuated_few after_comma (colon ∷ ls) = omega arith
punctuated_few after_key (colon ∷ ls) = let few = punctuated_few fresh ls in omega arith

pub tokens_few : (text : List ℕ) → length (tokens text) ≤ suc (length text)
tokens_few text = let few = punctuated_few fresh (lex between text) in let fewer = lexemes_few between text in omega arith
