-- What escaping and unescaping a token's text do.
use Rattle.std.proofs.Common.{◌≡◌, ℕ, suc, ◌*◌, ◌<◌, ◌≤◌, ◌≢◌, ◌⊎◌, ◌↔◌, Bool, true, false, eqb, List, [], ◌∷◌, ◌++◌, length, length-append, All, slice_index, append_assoc, arith, refl, sym, ap, ap₂, ◌∙◌, subst, inl, inr, ⊎_elim, IsUtf8, chars, encode_utf8_all}
use Rattle.std.proofs.lemmas.Bool.{cases_eq, cases_lt, ne_eqb, cond_both, and_parts, and_from}
use Rattle.std.proofs.lemmas.Str.{inside_one, encode_ascii, encodes-append, chars_from_encodes, encodes-chars, encode_same}
use Rattle.std.proofs.lemmas.List.Elements.{All-nil, All-cons, All-head, All-tail, All-from_get_or}
use Rattle.std.proofs.lemmas.List.{append-nil}
use lib.Utf8.{encode, scalar, scalars}
use Rattle.std.proofs.lemmas.Grind.{common_steps}
use Rattle.jsonptr_grammar.specs.Text.{Text, escape_of, esc, escaped_by, unesc_after, unesc}
use Rattle.jsonptr_grammar.specs.Grammar.{IsToken, end, plain, tilde, slash}

-- a byte other than `~` is its own unescape
pub unesc-cons : (b : ℕ) (bs : Text) → b ≢ 126 → unesc (b ∷ bs) ≡ b ∷ unesc bs
unesc-cons b bs h = rw (ne_eqb b 126 h)

-- a byte other than `~` and `/` is its own escape
pub esc-cons : (b : ℕ) (bs : Text) → b ≢ 126 → b ≢ 47 → esc (b ∷ bs) ≡ b ∷ esc bs
esc-cons b bs h k = rw (ne_eqb b 126 h, ne_eqb b 47 k)

-- how to show a fact of a byte and what follows it: for `~`, for `/` and for any other
pub by_byte : (P : ℕ → Type 0) (b : ℕ) → P 126 → P 47 → (b ≢ 126 → b ≢ 47 → P b) → P b
by_byte P b x y z = ⊎_elim (λ e. subst P (sym e) x) (λ h. ⊎_elim (λ e. subst P (sym e) y) (λ k. z h k) (cases_eq b 47)) (cases_eq b 126)

-- unescaping undoes the escape of one byte, whatever follows
pub unesc-escape_of : (b : ℕ) (rest : Text) → unesc (escape_of b ++ rest) ≡ b ∷ unesc rest
unesc-escape_of b rest = grind (arith, common_steps)

-- escaping goes byte by byte
pub esc-append : (s t : Text) → esc (s ++ t) ≡ esc s ++ esc t
esc-append [] t = refl
esc-append (b ∷ s) t = rw (esc-append s t) (sym (append_assoc (escape_of b) (esc s) (esc t)))

-- encoded text before any other text decodes to itself
pub unesc-esc_append : (s rest : Text) → unesc (esc s ++ rest) ≡ s ++ unesc rest
unesc-esc_append [] rest = refl
unesc-esc_append (b ∷ s) rest = ap unesc (append_assoc (escape_of b) (esc s) rest) ∙ unesc-escape_of b (esc s ++ rest) ∙ ap (λ (x : Text). b ∷ x) (unesc-esc_append s rest)

-- decoding undoes encoding
pub unesc-esc : (s : Text) → unesc (esc s) ≡ s
unesc-esc [] = refl
unesc-esc (b ∷ s) = unesc-escape_of b (esc s) ∙ ap (λ (x : Text). b ∷ x) (unesc-esc s)

-- two texts with one encoded text are equal
pub esc_one : (s t : Text) → esc s ≡ esc t → s ≡ t
esc_one s t e = sym (unesc-esc s) ∙ ap unesc e ∙ unesc-esc t

-- every encoded text is a token of the grammar
pub IsToken-esc : (s : Text) → IsToken (esc s)
IsToken-esc [] = end
IsToken-esc (b ∷ s) = by_byte (λ c. IsToken (esc (c ∷ s))) b (tilde (IsToken-esc s)) (slash (IsToken-esc s)) (λ h k. rw (esc-cons b s h k) (plain h k (IsToken-esc s)))

-- encoding undoes decoding on the tokens of the grammar
pub esc-unesc : {t : Text} → IsToken t → esc (unesc t) ≡ t
esc-unesc end = refl
esc-unesc (plain {b} {bs} h k r) = ap esc (unesc-cons b bs h) ∙ esc-cons b (unesc bs) h k ∙ ap (λ (x : Text). b ∷ x) (esc-unesc r)
esc-unesc (tilde {bs} r) = ap (λ (x : Text). 126 ∷ 48 ∷ x) (esc-unesc r)
esc-unesc (slash {bs} r) = ap (λ (x : Text). 126 ∷ 49 ∷ x) (esc-unesc r)

-- the tokens of the grammar are the encoded texts
pub IsToken_iff : (t : Text) → IsToken t ↔ ((s : Text) × (esc s ≡ t))
IsToken_iff t = (λ r. (unesc t, esc-unesc r), λ (p : (s : Text) × (esc s ≡ t)). subst IsToken p.1 (IsToken-esc p.0))

-- a text without `~` is its own unescape
pub unesc-plain : (t : Text) → All (λ b. b ≢ 126) t → unesc t ≡ t
unesc-plain [] h = refl
unesc-plain (b ∷ t) h = unesc-cons b t (All-head (λ c. c ≢ 126) b t h) ∙ ap (λ (x : Text). b ∷ x) (unesc-plain t (All-tail (λ c. c ≢ 126) b t h))

-- the same, by offsets
pub unesc-plain_at : (t : Text) → ((k : ℕ) → k < length t → slice_index t k ≢ 126) → unesc t ≡ t
unesc-plain_at t h = unesc-plain t (All-from_get_or (λ c. c ≢ 126) t 0 h)

-- a text without `~` and `/` is its own escape
pub esc-plain : (t : Text) → All (λ b. b ≢ 126) t → All (λ b. b ≢ 47) t → esc t ≡ t
esc-plain [] h k = refl
esc-plain (b ∷ t) h k = esc-cons b t (All-head (λ c. c ≢ 126) b t h) (All-head (λ c. c ≢ 47) b t k) ∙ ap (λ (x : Text). b ∷ x) (esc-plain t (All-tail (λ c. c ≢ 126) b t h) (All-tail (λ c. c ≢ 47) b t k))

-- the same, by offsets
pub esc-plain_at : (t : Text) → ((k : ℕ) → k < length t → slice_index t k ≢ 126) → ((k : ℕ) → k < length t → slice_index t k ≢ 47) → esc t ≡ t
esc-plain_at t h k = esc-plain t (All-from_get_or (λ c. c ≢ 126) t 0 h) (All-from_get_or (λ c. c ≢ 47) t 0 k)

-- a text without `~` and `/` is a token
pub IsToken-plain : (t : Text) → All (λ b. b ≢ 126) t → All (λ b. b ≢ 47) t → IsToken t
IsToken-plain [] h k = end
IsToken-plain (b ∷ t) h k = plain (All-head (λ c. c ≢ 126) b t h) (All-head (λ c. c ≢ 47) b t k) (IsToken-plain t (All-tail (λ c. c ≢ 126) b t h) (All-tail (λ c. c ≢ 47) b t k))

-- the same, by offsets
pub IsToken-plain_at : (t : Text) → ((k : ℕ) → k < length t → slice_index t k ≢ 126) → ((k : ℕ) → k < length t → slice_index t k ≢ 47) → IsToken t
IsToken-plain_at t h k = IsToken-plain t (All-from_get_or (λ c. c ≢ 126) t 0 h) (All-from_get_or (λ c. c ≢ 47) t 0 k)

-- a token has no `/`
pub no_slash-IsToken : {t : Text} → IsToken t → All (λ b. b ≢ 47) t
no_slash-IsToken end = All-nil (λ b. b ≢ 47)
no_slash-IsToken (plain {b} {bs} h k r) = All-cons (λ c. c ≢ 47) b bs k (no_slash-IsToken r)
no_slash-IsToken (tilde {bs} r) = All-cons (λ c. c ≢ 47) 126 (48 ∷ bs) (grind arith) (All-cons (λ c. c ≢ 47) 48 bs (grind arith) (no_slash-IsToken r))
no_slash-IsToken (slash {bs} r) = All-cons (λ c. c ≢ 47) 126 (49 ∷ bs) (grind arith) (All-cons (λ c. c ≢ 47) 49 bs (grind arith) (no_slash-IsToken r))

-- an encoded text has no `/`
pub no_slash-esc : (s : Text) → All (λ b. b ≢ 47) (esc s)
no_slash-esc s = no_slash-IsToken (IsToken-esc s)

-- two tokens in a row are a token
pub IsToken-append : {s : Text} (t : Text) → IsToken s → IsToken t → IsToken (s ++ t)
IsToken-append t end q = q
IsToken-append t (plain h k r) q = plain h k (IsToken-append t r q)
IsToken-append t (tilde r) q = tilde (IsToken-append t r q)
IsToken-append t (slash r) q = slash (IsToken-append t r q)

-- a token before any other text decodes by itself
pub unesc-append : {s : Text} (t : Text) → IsToken s → unesc (s ++ t) ≡ unesc s ++ unesc t
unesc-append t end = refl
unesc-append t (plain {b} {bs} h k r) = unesc-cons b (bs ++ t) h ∙ ap (λ (x : Text). b ∷ x) (unesc-append t r) ∙ ap (λ (x : Text). x ++ unesc t) (sym (unesc-cons b bs h))
unesc-append t (tilde r) = ap (λ (x : Text). 126 ∷ x) (unesc-append t r)
unesc-append t (slash r) = ap (λ (x : Text). 47 ∷ x) (unesc-append t r)

-- decoding makes no text longer, with a `~` just before it or not
pub length-unesc_after : (f : Bool) (t : Text) → length (unesc_after f t) ≤ length t
length-unesc_after f [] = omega arith
length-unesc_after true (b ∷ t) = let h = length-unesc_after false t in omega arith
length-unesc_after false (b ∷ t) = cond_both (eqb b 126) (unesc_after true t) (b ∷ unesc_after false t) (λ x. length x ≤ suc (length t)) (λ e. let h = length-unesc_after true t in omega arith) (λ e. let h = length-unesc_after false t in omega arith)

-- decoding makes no text longer
pub length-unesc : (t : Text) → length (unesc t) ≤ length t
length-unesc t = length-unesc_after false t

-- the escape of a byte has one byte or two
pub length-escape_of : (b : ℕ) → (1 ≤ length (escape_of b)) × (length (escape_of b) ≤ 2)
length-escape_of b = grind (arith, common_steps)

-- encoding makes no text shorter
pub length-le-esc : (s : Text) → length s ≤ length (esc s)
length-le-esc [] = omega arith
length-le-esc (b ∷ s) = let h = length-le-esc s in let k = length-escape_of b in omega (arith, length-append (escape_of b) (esc s))

-- and at most twice as long
pub length-esc-le : (s : Text) → length (esc s) ≤ 2 * length s
length-esc-le [] = omega arith
length-esc-le (b ∷ s) = let h = length-esc-le s in let k = length-escape_of b in omega (arith, length-append (escape_of b) (esc s))

-- each byte of a character past ASCII is past ASCII
high_bytes : (c k : ℕ) → 128 ≤ c → k < length (encode c) → 128 ≤ slice_index (encode c) k
high_bytes c k h l = ⊎_elim (λ (lt : slice_index (encode c) k < 128). absurd (omega (arith, inside_one c [] (encode c) k (sym (append-nil (encode c))) l lt))) (λ h. h) (cases_lt (slice_index (encode c) k) 128)

-- one character is escaped in bytes as in characters
encode-escape_of : (c : ℕ) → esc (encode c) ≡ encode_utf8_all (escape_of c)
unfolding encode
encode-escape_of c = by_byte (λ d. esc (encode d) ≡ encode_utf8_all (escape_of d)) c (ap esc (encode_ascii 126 (omega arith))) (ap esc (encode_ascii 47 (omega arith))) (λ h k. other h k)
  where
    single : c ≢ 126 → c ≢ 47 → encode_utf8_all (escape_of c) ≡ encode c
    single h k = rw (ne_eqb c 126 h, ne_eqb c 47 k) (append-nil (encode c))

    other : c ≢ 126 → c ≢ 47 → esc (encode c) ≡ encode_utf8_all (escape_of c)
    other h k = ⊎_elim (λ (low : c < 128). ap esc (encode_ascii c low) ∙ esc-cons c [] h k ∙ sym (encode_ascii c low) ∙ sym (single h k)) (λ (high : 128 ≤ c). esc-plain_at (encode c) (λ i l. let w = high_bytes c i high l in grind arith) (λ i l. let w = high_bytes c i high l in grind arith) ∙ sym (single h k)) (cases_lt c 128)

-- the bytes of the escaped characters are the escaped bytes
pub esc-encodes : (cs : List ℕ) → esc (encode_utf8_all cs) ≡ encode_utf8_all (esc cs)
esc-encodes [] = refl
esc-encodes (c ∷ cs) = esc-append (encode c) (encode_utf8_all cs) ∙ ap₂ (λ (x y : Text). x ++ y) (encode-escape_of c) (esc-encodes cs) ∙ sym (encodes-append (escape_of c) (esc cs))

scalars-esc_cons : (c : ℕ) (cs : List ℕ) → scalar c ≡ true → scalars (esc cs) ≡ true → scalars (esc (c ∷ cs)) ≡ true
scalars-esc_cons c cs s h = by_byte (λ d. scalar d ≡ true → scalars (esc (d ∷ cs)) ≡ true) c (λ e. h) (λ e. h) (λ p q e. rw (esc-cons c cs p q) (and_from (scalar c) (scalars (esc cs)) e h)) s

-- what is escaped stays a list of characters
pub scalars-esc : (cs : List ℕ) → scalars cs ≡ true → scalars (esc cs) ≡ true
scalars-esc [] e = refl
scalars-esc (c ∷ cs) e = let p = and_parts (scalar c) (scalars cs) e in scalars-esc_cons c cs p.0 (scalars-esc cs p.1)

-- an encoded text is UTF-8 if the decoded one is
pub IsUtf8-esc : (s : Text) → IsUtf8 s → IsUtf8 (esc s)
IsUtf8-esc s u = (esc u.0, (scalars-esc u.0 u.1.0, sym (esc-encodes u.0) ∙ ap esc u.1.1))

-- escaping the bytes is escaping the characters
pub chars-esc : (s : Text) → IsUtf8 s → chars (esc s) ≡ esc (chars s)
chars-esc s u = sym (chars_from_encodes (esc (chars s)) (esc s) (IsUtf8-esc s u) (sym (esc-encodes (chars s)) ∙ ap esc (encodes-chars s u)))

IsToken-tail : {b : ℕ} {t : Text} → IsToken (b ∷ t) → b ≢ 126 → IsToken t
IsToken-tail (plain h k r) n = r
IsToken-tail (tilde r) n = absurd (n refl)
IsToken-tail (slash r) n = absurd (n refl)

IsToken-drop : (s t : Text) → All (λ b. b ≢ 126) s → IsToken (s ++ t) → IsToken t
IsToken-drop [] t h r = r
IsToken-drop (b ∷ s) t h r = IsToken-drop s t (All-tail (λ c. c ≢ 126) b s h) (IsToken-tail r (All-head (λ c. c ≢ 126) b s h))

-- what follows the `~` of a token: 0 or 1 and a token
after_tilde : {t : Text} → IsToken (126 ∷ t) → (c : ℕ) × (u : Text) × (t ≡ c ∷ u) × ((c ≡ 48) ⊎ (c ≡ 49)) × IsToken u
after_tilde (plain h k r) = absurd (h refl)
after_tilde (tilde {bs} r) = (48, bs, refl, inl refl, r)
after_tilde (slash {bs} r) = (49, bs, refl, inr refl, r)

-- a character's bytes have no `~`, if the character is not `~`
no_tilde-encode : (c : ℕ) → c ≢ 126 → All (λ b. b ≢ 126) (encode c)
no_tilde-encode c h = All-from_get_or (λ b. b ≢ 126) (encode c) 0 (λ k l e. h (inside_one c [] (encode c) k (sym (append-nil (encode c))) l (omega arith) ∙ e))

-- a character other than `~`, before a token's characters
plain_char : (c : ℕ) (cs : List ℕ) → c ≢ 126 → (IsToken (encode_utf8_all cs) → IsToken cs) → IsToken (encode_utf8_all (c ∷ cs)) → IsToken (c ∷ cs)
plain_char c cs h more r = ⊎_elim (λ (e : c ≡ 47). absurd (All-head (λ b. b ≢ 47) 47 (encode_utf8_all cs) (no_slash-IsToken (subst (λ d. IsToken (d ++ encode_utf8_all cs)) (ap encode e ∙ encode_ascii 47 (omega arith)) r)) refl)) (λ k. plain h k (more (IsToken-drop (encode c) (encode_utf8_all cs) (no_tilde-encode c h) r))) (cases_eq c 47)

tilde_chars : (d : ℕ) (ds : List ℕ) → (IsToken (encode_utf8_all ds) → IsToken ds) → IsToken (126 ∷ encode_utf8_all (d ∷ ds)) → IsToken (126 ∷ d ∷ ds)
tilde_chars d ds more r =
    let a = after_tilde r in
    let low : a.0 < 128 = ⊎_elim (λ (e : a.0 ≡ 48). omega arith) (λ (e : a.0 ≡ 49). omega arith) a.3 in
    let same = encode_same d a.0 (encode_utf8_all ds) a.1 (a.2 ∙ ap (λ (x : Text). x ++ a.1) (sym (encode_ascii a.0 low))) in
    let rest : IsToken ds = more (subst IsToken (sym same.1) a.4) in
    ⊎_elim (λ (e : a.0 ≡ 48). subst (λ x. IsToken (126 ∷ x ∷ ds)) (sym (same.0 ∙ e)) (tilde rest)) (λ (e : a.0 ≡ 49). subst (λ x. IsToken (126 ∷ x ∷ ds)) (sym (same.0 ∙ e)) (slash rest)) a.3

-- the characters of a token are a token
pub IsToken-characters : (cs : List ℕ) → IsToken (encode_utf8_all cs) → IsToken cs
IsToken-characters [] r = end
IsToken-characters (c ∷ []) r = ⊎_elim (λ (e : c ≡ 126). absurd (lone (subst (λ d. IsToken (d ++ [])) (ap encode e ∙ encode_ascii 126 (omega arith)) r))) (λ h. plain_char c [] h (λ k. end) r) (cases_eq c 126)
  where
    lone : IsToken (126 ∷ []) → ⊥
    lone r = let a = after_tilde r in cc (a.2)
IsToken-characters (c ∷ d ∷ ds) r = ⊎_elim (λ (e : c ≡ 126). subst (λ x. IsToken (x ∷ d ∷ ds)) (sym e) (tilde_chars d ds (IsToken-characters ds) (subst (λ x. IsToken (x ++ encode_utf8_all (d ∷ ds))) (ap encode e ∙ encode_ascii 126 (omega arith)) r))) (λ h. plain_char c (d ∷ ds) h (IsToken-characters (d ∷ ds)) r) (cases_eq c 126)

-- a token's bytes are unescaped as its characters are
pub unesc-encodes : (cs : List ℕ) → IsToken (encode_utf8_all cs) → unesc (encode_utf8_all cs) ≡ encode_utf8_all (unesc cs)
unesc-encodes cs r = ap (λ (x : List ℕ). unesc (encode_utf8_all x)) (sym (esc-unesc (IsToken-characters cs r))) ∙ ap unesc (sym (esc-encodes (unesc cs))) ∙ unesc-esc (encode_utf8_all (unesc cs))

pub scalars-unesc_after : (f : Bool) (cs : List ℕ) → scalars cs ≡ true → scalars (unesc_after f cs) ≡ true
scalars-unesc_after f [] e = refl
scalars-unesc_after true (c ∷ cs) e = let p = and_parts (scalar c) (scalars cs) e in and_from (scalar (escaped_by c)) (scalars (unesc_after false cs)) (cond_both (eqb c 49) 47 126 (λ x. scalar x ≡ true) (λ _. refl) (λ _. refl)) (scalars-unesc_after false cs p.1)
scalars-unesc_after false (c ∷ cs) e = let p = and_parts (scalar c) (scalars cs) e in cond_both (eqb c 126) (unesc_after true cs) (c ∷ unesc_after false cs) (λ x. scalars x ≡ true) (λ _. scalars-unesc_after true cs p.1) (λ _. and_from (scalar c) (scalars (unesc_after false cs)) p.0 (scalars-unesc_after false cs p.1))

-- what a token in UTF-8 decodes to is UTF-8
pub IsUtf8-unesc : (t : Text) → IsToken t → IsUtf8 t → IsUtf8 (unesc t)
IsUtf8-unesc t r u = (unesc u.0, (scalars-unesc_after false u.0 u.1.0, sym (unesc-encodes u.0 (subst IsToken (sym u.1.1) r)) ∙ ap unesc u.1.1))

-- unescaping the bytes of a token is unescaping its characters
pub chars-unesc : (t : Text) → IsToken t → IsUtf8 t → chars (unesc t) ≡ unesc (chars t)
chars-unesc t r u = sym (chars_from_encodes (unesc (chars t)) (unesc t) (IsUtf8-unesc t r u) (sym (unesc-encodes (chars t) (subst IsToken (sym (encodes-chars t u)) r)) ∙ ap unesc (encodes-chars t u)))

-- characters that are a token have bytes that are a token
pub IsToken-bytes : (cs : List ℕ) → IsToken cs → IsToken (encode_utf8_all cs)
IsToken-bytes cs r = subst IsToken (esc-encodes (unesc cs) ∙ ap encode_utf8_all (esc-unesc r)) (IsToken-esc (encode_utf8_all (unesc cs)))

-- the grammar of tokens holds of bytes where it holds of characters
pub IsToken-encodes_iff : (cs : List ℕ) → IsToken (encode_utf8_all cs) ↔ IsToken cs
IsToken-encodes_iff cs = (IsToken-characters cs, IsToken-bytes cs)

-- a text is UTF-8 where its encoded text is
pub IsUtf8-esc_iff : (s : Text) → IsUtf8 (esc s) ↔ IsUtf8 s
IsUtf8-esc_iff s = (λ u. subst IsUtf8 (unesc-esc s) (IsUtf8-unesc (esc s) (IsToken-esc s) u), IsUtf8-esc s)
