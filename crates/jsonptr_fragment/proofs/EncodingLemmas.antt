-- Texts that encode bytes.
use Rattle.std.proofs.Common.{◌≡◌, ◌≢◌, ℕ, ◌+◌, ◌*◌, ◌/◌, ◌%◌, ◌<◌, ◌⊎◌, Bool, true, false, [], ◌∷◌, ◌++◌, All, IsTrue, refl, sym, ap, ◌∙◌, subst, inl, inr, ⊎_elim, append_assoc, arith, true≢false}
use Rattle.std.specs.Char.{is_digit, digit_value}
use Rattle.std.specs.Fmt.{digit_glyph}
use Rattle.std.specs.List.{flat_map}
use Rattle.std.proofs.lemmas.Bool.{cond-true, cond-false}
use Rattle.std.proofs.lemmas.Bool.Decides.{nat_tests}
use Rattle.std.proofs.lemmas.List.Elements.{All-head, All-tail, All-nil, All-cons}
use Rattle.percent_encoding.specs.Percent.{percent_encode_byte, percent_decode}
use Rattle.percent_encoding.proofs.PercentLemmas.{IsByte, percent_decode-nil, percent_decode_escape, percent_decode_not_percent}
use Rattle.jsonptr.specs.Text.{Text}
use Rattle.jsonptr_fragment.specs.Fragment.{is_fragment_byte, encoded_byte, Encodes, nothing, itself, escape}

pub not_percent : (b : ℕ) → IsTrue (is_fragment_byte b) → b ≢ 37
not_percent b kept same = true≢false (sym kept ∙ ap is_fragment_byte same)

pub encodes_append : {s t bs cs : Text} → Encodes s bs → Encodes t cs → Encodes (s ++ t) (bs ++ cs)
encodes_append nothing q = q
encodes_append (itself b kept p) q = itself b kept (encodes_append p q)
encodes_append (escape h l high low p) q = escape h l high low (encodes_append p q)

-- ---- decoding

digit_small : (d : ℕ) → IsTrue (is_digit d 16) → digit_value d < 16
digit_small d digit = grind (arith, nat_tests)

pub decode_encoded : {s bs : Text} → Encodes s bs → percent_decode s ≡ bs
decode_encoded nothing = percent_decode-nil
decode_encoded {s = s} (itself {s = t} b kept p) = percent_decode_not_percent b t (not_percent b kept) ∙ ap (λ (r : Text). b ∷ r) (decode_encoded p)
decode_encoded (escape {s = t} h l high low p) =
    percent_decode_escape 37 h l t refl (digit_small h high) (digit_small l low) ∙ ap (λ (r : Text). (16 * digit_value h + digit_value l) ∷ r) (decode_encoded p)

pub one_bytes : {s bs cs : Text} → Encodes s bs → Encodes s cs → bs ≡ cs
one_bytes p q = sym (decode_encoded p) ∙ decode_encoded q

-- ---- what is written

glyph_digit : (d : ℕ) → d < 16 → IsTrue (is_digit (digit_glyph true d) 16)
glyph_digit d small = grind (arith, nat_tests)

glyph_value : (d : ℕ) → d < 16 → digit_value (digit_glyph true d) ≡ d
glyph_value d small = grind (arith, nat_tests)

byte_value : (b : ℕ) → b < 256 → 16 * digit_value (digit_glyph true (b / 16 % 16)) + digit_value (digit_glyph true (b % 16)) ≡ b
byte_value b small =
    let high : digit_value (digit_glyph true (b / 16 % 16)) ≡ b / 16 % 16 = glyph_value (b / 16 % 16) (omega arith) in
    let low : digit_value (digit_glyph true (b % 16)) ≡ b % 16 = glyph_value (b % 16) (omega arith) in
    rw (high, low) (omega arith)

encodes_escaped : (b : ℕ) → b < 256 → Encodes (percent_encode_byte b) (b ∷ [])
unfolding percent_encode_byte
encodes_escaped b small =
    subst (λ (c : ℕ). Encodes (37 ∷ digit_glyph true (b / 16 % 16) ∷ digit_glyph true (b % 16) ∷ []) (c ∷ [])) (byte_value b small)
    (escape (digit_glyph true (b / 16 % 16)) (digit_glyph true (b % 16)) (glyph_digit (b / 16 % 16) (omega arith)) (glyph_digit (b % 16) (omega arith)) nothing)

encodes_byte : (b : ℕ) → b < 256 → Encodes (encoded_byte b) (b ∷ [])
encodes_byte b small = by_test (is_fragment_byte b) refl
  where
    by_test : (c : Bool) → is_fragment_byte b ≡ c → Encodes (encoded_byte b) (b ∷ [])
    by_test true is = subst (λ (t : Text). Encodes t (b ∷ [])) (sym (cond-true _ _ _ is)) (itself b is nothing)
    by_test false is = subst (λ (t : Text). Encodes t (b ∷ [])) (sym (cond-false _ _ _ is)) (encodes_escaped b small)

pub encodes_written : (bs : Text) → All IsByte bs → Encodes (flat_map encoded_byte bs) bs
encodes_written [] small = nothing
encodes_written (b ∷ bs) small =
    encodes_append (encodes_byte b (All-head IsByte b bs small)) (encodes_written bs (All-tail IsByte b bs small))

-- ---- two encodings that begin alike

-- `g` encodes more than `f`, and `x` begins with the rest
pub record Extends (f bs x g cs y : Text) : Type 0 where
  pub more : Text
  pub bytes : Text
  pub text_is : g ≡ f ++ more
  pub bytes_are : cs ≡ bs ++ bytes
  pub left : x ≡ more ++ y
  pub encodes : Encodes more bytes

longer : (u : Text) (b : ℕ) (f bs x g cs y : Text) → Extends f bs x g cs y → Extends (u ++ f) (b ∷ bs) x (u ++ g) (b ∷ cs) y
longer u b f bs x g cs y r = record {
  more = r.more;
  bytes = r.bytes;
  text_is = ap (λ (t : Text). u ++ t) r.text_is ∙ sym (append_assoc u f r.more);
  bytes_are = ap (λ (t : Text). b ∷ t) r.bytes_are;
  left = r.left;
  encodes = r.encodes;
}

abbrev pub IsOneLonger : Text → Text → Text → Text → Text → Text → Type 0
IsOneLonger f bs x g cs y = Extends f bs x g cs y ⊎ Extends g cs y f bs x

both_longer : (u : Text) (b : ℕ) (f bs x g cs y : Text) → IsOneLonger f bs x g cs y → IsOneLonger (u ++ f) (b ∷ bs) x (u ++ g) (b ∷ cs) y
both_longer u b f bs x g cs y = ⊎_elim (λ r. inl (longer u b f bs x g cs y r)) (λ r. inr (longer u b g cs y f bs x r))

head_same : (b c : ℕ) (s t : Text) → b ∷ s ≡ c ∷ t → b ≡ c
head_same b c s t e = cc

tail_same : (b c : ℕ) (s t : Text) → b ∷ s ≡ c ∷ t → s ≡ t
tail_same b c s t e = cc

pub compare : {f bs g cs : Text} (x y : Text) → Encodes f bs → Encodes g cs → f ++ x ≡ g ++ y → IsOneLonger f bs x g cs y
compare {g = g} {cs = cs} x y nothing q e = inl (record { more = g; bytes = cs; text_is = refl; bytes_are = refl; left = e; encodes = q })
compare {f = f} {bs = bs} x y p nothing e = inr (record { more = f; bytes = bs; text_is = refl; bytes_are = refl; left = sym e; encodes = p })
compare x y (itself {s = s} {bs = bs} b kept p) (itself {s = t} {bs = cs} c other q) e =
    let same : b ≡ c = head_same b c (s ++ x) (t ++ y) e in
    subst (λ (d : ℕ). IsOneLonger (b ∷ s) (b ∷ bs) x (d ∷ t) (d ∷ cs) y) same (both_longer (b ∷ []) b s bs x t cs y (compare x y p q (tail_same b c (s ++ x) (t ++ y) e)))
compare x y (itself {s = s} b kept p) (escape {s = t} h l high low q) e = absurd (not_percent b kept (head_same b 37 (s ++ x) (h ∷ l ∷ t ++ y) e))
compare x y (escape {s = s} h l high low p) (itself {s = t} c kept q) e = absurd (not_percent c kept (sym (head_same 37 c (h ∷ l ∷ s ++ x) (t ++ y) e)))
compare x y (escape {s = s} {bs = bs} h l high low p) (escape {s = t} {bs = cs} i m high2 low2 q) e =
    let rest : h ∷ l ∷ s ++ x ≡ i ∷ m ∷ t ++ y = tail_same 37 37 (h ∷ l ∷ s ++ x) (i ∷ m ∷ t ++ y) e in
    let first : h ≡ i = head_same h i (l ∷ s ++ x) (m ∷ t ++ y) rest in
    let next : l ∷ s ++ x ≡ m ∷ t ++ y = tail_same h i (l ∷ s ++ x) (m ∷ t ++ y) rest in
    let second : l ≡ m = head_same l m (s ++ x) (t ++ y) next in
    let go : IsOneLonger (37 ∷ h ∷ l ∷ s) ((16 * digit_value h + digit_value l) ∷ bs) x (37 ∷ h ∷ l ∷ t) ((16 * digit_value h + digit_value l) ∷ cs) y =
    both_longer (37 ∷ h ∷ l ∷ []) (16 * digit_value h + digit_value l) s bs x t cs y (compare x y p q (tail_same l m (s ++ x) (t ++ y) next)) in
    subst (λ (d : ℕ). IsOneLonger (37 ∷ h ∷ l ∷ s) ((16 * digit_value h + digit_value l) ∷ bs) x (37 ∷ d ∷ m ∷ t) ((16 * digit_value d + digit_value m) ∷ cs) y) first
    (subst (λ (d : ℕ). IsOneLonger (37 ∷ h ∷ l ∷ s) ((16 * digit_value h + digit_value l) ∷ bs) x (37 ∷ h ∷ d ∷ t) ((16 * digit_value h + digit_value d) ∷ cs) y) second go)

-- a text that encodes no byte is empty
pub encodes_none : {s bs : Text} → Encodes s bs → bs ≡ [] → s ≡ []
encodes_none nothing e = refl
encodes_none (itself b kept p) e = let none : ⊥ = cc in absurd none
encodes_none (escape h l high low p) e = let none : ⊥ = cc in absurd none

-- every byte of a fragment is a fragment byte or `%`
abbrev pub IsOfFragment : ℕ → Type 0
IsOfFragment b = IsTrue (is_fragment_byte b) ⊎ (b ≡ 37)

digit_kept : (d : ℕ) → IsTrue (is_digit d 16) → IsTrue (is_fragment_byte d)
digit_kept d digit = grind (arith, nat_tests)

pub bytes_of_fragment : {s bs : Text} → Encodes s bs → All IsOfFragment s
bytes_of_fragment nothing = All-nil IsOfFragment
bytes_of_fragment (itself {s = s} b kept p) = All-cons IsOfFragment b s (inl kept) (bytes_of_fragment p)
bytes_of_fragment (escape {s = s} h l high low p) =
    All-cons IsOfFragment 37 (h ∷ l ∷ s) (inr refl) (All-cons IsOfFragment h (l ∷ s) (inl (digit_kept h high)) (All-cons IsOfFragment l s (inl (digit_kept l low)) (bytes_of_fragment p)))

pub bytes_of_rest : (s rest bs : Text) → 35 ∷ s ≡ 35 ∷ rest → Encodes rest bs → All IsOfFragment s
bytes_of_rest s rest bs is p = subst (λ (t : Text). All IsOfFragment t) (sym (tail_same 35 35 s rest is)) (bytes_of_fragment p)
