-- The text of a list of tokens, and the tokens of a pointer's text.
use Rattle.std.proofs.Common.{◌≡◌, ℕ, ◌+◌, ◌≤◌, ◌≢◌, ◌⊎◌, ◌↔◌, false, List, [], ◌∷◌, ◌++◌, map, length, length-append, All, slice_index, append_assoc, append-nil, arith, refl, sym, ap, ap₂, ◌∙◌, subst, inl, inr, ⊎_elim, count_by, encode_utf8_all}
use Rattle.std.proofs.lemmas.Str.{encodes-append}
use lib.Utf8.{encode}
use Rattle.std.proofs.lemmas.Bool.{ne_eqb}
use Rattle.std.proofs.lemmas.List.{length-map, length-drop}
use Rattle.std.proofs.lemmas.List.Elements.{All-head, All-tail, All-weaker}
use Rattle.std.proofs.lemmas.List.Splits.{slice_split_none, slice_split_at, length-slice_split}
use Rattle.std.specs.List.{slice_split}
use Rattle.jsonptr_grammar.specs.Text.{Text, is_slash, esc, unesc, text, encoded_tokens, tokens_of}
use Rattle.jsonptr_grammar.specs.Grammar.{IsToken, IsPointer, root, segment}
use Rattle.jsonptr_grammar.proofs.EscapeLemmas.{unesc-esc, esc-unesc, IsToken-esc, no_slash-IsToken, no_slash-esc, esc-encodes}

no_split : (t : Text) → All (λ b. b ≢ 47) t → All (λ b. is_slash b ≡ false) t
no_split t h = All-weaker (λ b. b ≢ 47) (λ b. is_slash b ≡ false) (λ b n. ne_eqb b 47 n) t h

-- the pointer with one token's text
pub tokens_of-last : (t : Text) → All (λ b. b ≢ 47) t → tokens_of (47 ∷ t) ≡ unesc t ∷ []
tokens_of-last t h = ap (map unesc) (slice_split_none is_slash t (no_split t h))

-- a pointer's text cut at its second slash
pub tokens_of-cut : (t r : Text) → All (λ b. b ≢ 47) t → tokens_of (47 ∷ t ++ 47 ∷ r) ≡ unesc t ∷ tokens_of (47 ∷ r)
tokens_of-cut t r h = ap (map unesc) (slice_split_at is_slash t 47 r (no_split t h) refl)

-- a text that is empty or begins with a slash
abbrev pub BeginsSegment : Text → Type 0
BeginsSegment r = (slice_index r 0 ≡ 47) ⊎ (r ≡ [])

-- the first token of a pointer's text, and those of the rest
pub tokens_of-segment : (t r : Text) → All (λ b. b ≢ 47) t → BeginsSegment r → tokens_of (47 ∷ t ++ r) ≡ unesc t ∷ tokens_of r
tokens_of-segment t [] h b = ap (λ (x : Text). tokens_of (47 ∷ x)) (append-nil t) ∙ tokens_of-last t h
tokens_of-segment t (c ∷ r) h b = ⊎_elim (λ (e : c ≡ 47). subst (λ x. tokens_of (47 ∷ t ++ x ∷ r) ≡ unesc t ∷ tokens_of (x ∷ r)) (sym e) (tokens_of-cut t r h)) (λ (e : c ∷ r ≡ []). cc) b

-- the text of a list of tokens is empty or begins with a slash
pub BeginsSegment-text : (ts : List Text) → BeginsSegment (text ts)
BeginsSegment-text [] = inr refl
BeginsSegment-text (t ∷ ts) = inl refl

-- a pointer's text is empty or begins with a slash
pub BeginsSegment-IsPointer : {s : Text} → IsPointer s → BeginsSegment s
BeginsSegment-IsPointer root = inr refl
BeginsSegment-IsPointer (segment t r) = inl refl

-- a pointer's text that is not empty begins with a slash
pub slash-IsPointer : {s : Text} → IsPointer s → s ≢ [] → slice_index s 0 ≡ 47
slash-IsPointer root h = absurd (h refl)
slash-IsPointer (segment t r) h = refl

-- every list of tokens has a text that is a pointer
pub IsPointer-text : (ts : List Text) → IsPointer (text ts)
IsPointer-text [] = root
IsPointer-text (t ∷ ts) = segment (IsToken-esc t) (IsPointer-text ts)

-- the tokens of a list's text are the list
pub tokens_of-text : (ts : List Text) → tokens_of (text ts) ≡ ts
tokens_of-text [] = refl
tokens_of-text (t ∷ ts) = tokens_of-segment (esc t) (text ts) (no_slash-esc t) (BeginsSegment-text ts) ∙ ap₂ (λ (x : Text) (xs : List Text). x ∷ xs) (unesc-esc t) (tokens_of-text ts)

-- the text of a pointer's tokens is the pointer
pub text-tokens_of : {s : Text} → IsPointer s → text (tokens_of s) ≡ s
text-tokens_of root = refl
text-tokens_of (segment {token} {rest} t r) = ap text (tokens_of-segment token rest (no_slash-IsToken t) (BeginsSegment-IsPointer r)) ∙ ap₂ (λ (x y : Text). 47 ∷ x ++ y) (esc-unesc t) (text-tokens_of r)

-- the pointers of the grammar are the texts of lists of tokens
pub IsPointer_iff : (s : Text) → IsPointer s ↔ ((ts : List Text) × (text ts ≡ s))
IsPointer_iff s = (λ p. (tokens_of s, text-tokens_of p), λ (q : (ts : List Text) × (text ts ≡ s)). subst IsPointer q.1 (IsPointer-text q.0))

-- a pointer's text is empty, or begins with a slash
pub nil_or_slash : (s : Text) → IsPointer s → (s ≡ []) ⊎ (slice_index s 0 ≡ 47)
nil_or_slash s p = ⊎_elim (λ e. inr e) (λ e. inl e) (BeginsSegment-IsPointer p)

-- a text that is the text of its tokens is a pointer
pub IsPointer-from_tokens : (s : Text) → text (tokens_of s) ≡ s → IsPointer s
IsPointer-from_tokens s e = subst IsPointer e (IsPointer-text (tokens_of s))

-- lists of tokens with one text are equal
pub text_one : (ts us : List Text) → text ts ≡ text us → ts ≡ us
text_one ts us e = sym (tokens_of-text ts) ∙ ap tokens_of e ∙ tokens_of-text us

-- pointers with equal tokens have equal texts
pub tokens_of_one : (s u : Text) → IsPointer s → IsPointer u → tokens_of s ≡ tokens_of u → s ≡ u
tokens_of_one s u p q e = sym (text-tokens_of p) ∙ ap text e ∙ text-tokens_of q

-- the text of two lists in a row
pub text-append : (ts us : List Text) → text (ts ++ us) ≡ text ts ++ text us
text-append [] us = refl
text-append (t ∷ ts) us = ap (λ (x : Text). 47 ∷ esc t ++ x) (text-append ts us) ∙ ap (λ (x : Text). 47 ∷ x) (sym (append_assoc (esc t) (text ts) (text us)))

-- two pointers in a row are a pointer
pub IsPointer-append : {s : Text} (u : Text) → IsPointer s → IsPointer u → IsPointer (s ++ u)
IsPointer-append u root q = q
IsPointer-append u (segment {token} {rest} t r) q = subst (λ (x : Text). IsPointer (47 ∷ x)) (sym (append_assoc token rest u)) (segment t (IsPointer-append u r q))

-- the tokens of two pointers in a row
pub tokens_of-append : (s u : Text) → IsPointer s → IsPointer u → tokens_of (s ++ u) ≡ tokens_of s ++ tokens_of u
tokens_of-append s u p q = ap tokens_of (ap₂ (λ (x y : Text). x ++ y) (sym (text-tokens_of p)) (sym (text-tokens_of q)) ∙ sym (text-append (tokens_of s) (tokens_of u))) ∙ tokens_of-text (tokens_of s ++ tokens_of u)

-- one more token at the end
pub tokens_of-push : (s t : Text) → IsPointer s → tokens_of (s ++ 47 ∷ esc t) ≡ tokens_of s ++ t ∷ []
tokens_of-push s t p = ap (λ (x : Text). tokens_of (s ++ 47 ∷ x)) (sym (append-nil (esc t))) ∙ tokens_of-append s (text (t ∷ [])) p (IsPointer-text (t ∷ [])) ∙ ap (λ (x : List Text). tokens_of s ++ x) (tokens_of-text (t ∷ []))

-- the same for the texts
pub text-push : (ts : List Text) (t : Text) → text (ts ++ t ∷ []) ≡ text ts ++ 47 ∷ esc t
text-push ts t = text-append ts (t ∷ []) ∙ ap (λ (x : Text). text ts ++ 47 ∷ x) (append-nil (esc t))

-- one more token before the others
pub tokens_of-cons : (t s : Text) → IsPointer s → tokens_of (47 ∷ esc t ++ s) ≡ t ∷ tokens_of s
tokens_of-cons t s p = tokens_of-segment (esc t) s (no_slash-esc t) (BeginsSegment-IsPointer p) ∙ ap (λ (x : Text). x ∷ tokens_of s) (unesc-esc t)

-- the length of a text, token by token
pub length-text-cons : (t : Text) (ts : List Text) → length (text (t ∷ ts)) ≡ 1 + length (esc t) + length (text ts)
length-text-cons t ts = omega (arith, length-append (esc t) (text ts))

-- and of two lists in a row
pub length-text-append : (ts us : List Text) → length (text (ts ++ us)) ≡ length (text ts) + length (text us)
length-text-append ts us = ap length (text-append ts us) ∙ length-append (text ts) (text us)

-- each token has a byte of its own
pub length-le-text : (ts : List Text) → length ts ≤ length (text ts)
length-le-text [] = omega arith
length-le-text (t ∷ ts) = let h = length-le-text ts in omega (arith, length-append (esc t) (text ts))

-- a list of tokens with no text is empty
pub text-nil : (ts : List Text) → text ts ≡ [] → ts ≡ []
text-nil [] e = refl
text-nil (t ∷ ts) e = cc

-- a pointer with no token is empty
pub tokens_of-nil : (s : Text) → IsPointer s → tokens_of s ≡ [] → s ≡ []
tokens_of-nil s p e = sym (text-tokens_of p) ∙ ap text e

-- a pointer has as many tokens as slashes
pub length-tokens_of : (s : Text) → IsPointer s → length (tokens_of s) ≡ count_by is_slash s
length-tokens_of s p = omega (arith, length-map (encoded_tokens s) unesc, length-drop 1 (slice_split is_slash s), length-slice_split is_slash s)

-- a text without slashes and what is empty or begins with one can be read off the two in a row
pub segment_one : (x y u v : Text) → All (λ b. b ≢ 47) x → All (λ b. b ≢ 47) y → BeginsSegment u → BeginsSegment v → x ++ u ≡ y ++ v → (x ≡ y) × (u ≡ v)
segment_one [] [] u v h k b d e = (refl, e)
segment_one [] (c ∷ y) u v h k b d e = absurd (⊎_elim (λ (p : slice_index u 0 ≡ 47). All-head (λ b. b ≢ 47) c y k (sym (ap (λ (z : Text). slice_index z 0) e) ∙ p)) (λ (p : u ≡ []). cc) b)
segment_one (c ∷ x) [] u v h k b d e = absurd (⊎_elim (λ (p : slice_index v 0 ≡ 47). All-head (λ b. b ≢ 47) c x h (ap (λ (z : Text). slice_index z 0) e ∙ p)) (λ (p : v ≡ []). cc) d)
segment_one (c ∷ x) (a ∷ y) u v h k b d e = let same : (c ≡ a) × (x ++ u ≡ y ++ v) = (cc, cc) in let rest = segment_one x y u v (All-tail (λ b. b ≢ 47) c x h) (All-tail (λ b. b ≢ 47) a y k) b d same.1 in (ap₂ (λ (p : ℕ) (q : Text). p ∷ q) same.0 rest.0, rest.1)

-- a pointer's text, cut before its second slash: a token and a pointer
pub IsPointer-cut : (t r : Text) → All (λ b. b ≢ 47) t → BeginsSegment r → IsPointer (47 ∷ t ++ r) → IsToken t × IsPointer r
IsPointer-cut t r h b p =
    let e : 47 ∷ esc (unesc t) ++ text (tokens_of r) ≡ 47 ∷ t ++ r = sym (ap text (tokens_of-segment t r h b)) ∙ text-tokens_of p in
    let f : esc (unesc t) ++ text (tokens_of r) ≡ t ++ r = cc in
    let same = segment_one (esc (unesc t)) t (text (tokens_of r)) r (no_slash-esc (unesc t)) h (BeginsSegment-text (tokens_of r)) b f in
    (subst IsToken same.0 (IsToken-esc (unesc t)), IsPointer-from_tokens r same.1)

-- the text of tokens in bytes is that of their characters
pub text-encodes : (ts : List (List ℕ)) → text (map encode_utf8_all ts) ≡ encode_utf8_all (text ts)
unfolding encode
text-encodes [] = refl
text-encodes (t ∷ ts) = ap (λ (x : Text). 47 ∷ x) (ap₂ (λ (x y : Text). x ++ y) (esc-encodes t) (text-encodes ts) ∙ sym (encodes-append (esc t) (text ts)))

-- characters that are a pointer have bytes that are a pointer
pub IsPointer-bytes : (cs : List ℕ) → IsPointer cs → IsPointer (encode_utf8_all cs)
IsPointer-bytes cs p = subst IsPointer (text-encodes (tokens_of cs) ∙ ap encode_utf8_all (text-tokens_of p)) (IsPointer-text (map encode_utf8_all (tokens_of cs)))
