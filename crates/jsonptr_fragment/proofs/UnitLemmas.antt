-- The first unit of a text, and the position of a byte in what it encodes.
use Rattle.std.proofs.Common.{◌≡◌, ◌≢◌, ℕ, ◌+◌, ◌-◌, ◌*◌, ◌<◌, ◌≤◌, Bool, true, false, not, Option, Some, None, MatchOption, [], ◌∷◌, ◌++◌, length, length-append, refl, sym, ap, ◌∙◌, subst, inl, inr, ⊎_elim, append_assoc, append-nil, arith}
use Rattle.std.specs.Borrow.{Bor}
use Rattle.std.specs.Char.{digit_value}
use Rattle.percent_encoding.specs.AsciiSet.{should_percent_encode}
use Rattle.jsonptr.specs.Text.{Text}
use Rattle.jsonptr_fragment.specs.Fragment.{is_fragment_byte, Encodes, nothing, itself, escape}
use Rattle.jsonptr_fragment.specs.FragmentError.{Reaches, StartsBadByte, StartsBadEscape, LacksDigits, IsFragmentErrorOf}
use Rattle.jsonptr_fragment.specs.PrivateUnits.{StartsUnit, StartsNoUnit, HasDigits}
use Rattle.jsonptr_fragment.specs.declared.error.FragmentError.{FragmentError}
use Rattle.jsonptr_fragment.specs.declared.error.FragmentError.TheVariants.{BadByte, BadEscape}
use Rattle.jsonptr_fragment.specs.declared.set.TheConstants.{ENCODED}
use Rattle.jsonptr_fragment.proofs.EncodingLemmas.{not_percent, encodes_append, one_bytes}
use Rattle.jsonptr_fragment.proofs.ErrorLaws.{IsStuck, byte_stuck, escape_stuck}
use Rattle.jsonptr_fragment.proofs.SetLemmas.{encoded_is}

-- ---- the first unit

pub unit_digits : (s rest : Text) → s ≡ 37 ∷ rest → (r : Option (Bor Text)) → MatchOption r (LacksDigits rest) (λ a. HasDigits rest a.now) → MatchOption r (StartsNoUnit s) (λ a. StartsUnit s a.now)
unit_digits s rest is None h = inr (inr (rest, is, h))
unit_digits s rest is (Some a) h =
    (37 ∷ h.0 ∷ h.1 ∷ [], 16 * digit_value h.0 + digit_value h.1, is ∙ ap (λ (t : Text). 37 ∷ t) h.2, escape h.0 h.1 h.3 h.4 nothing)

kept_or_not : (b : ℕ) (c : Bool) → should_percent_encode ENCODED b ≡ c → is_fragment_byte b ≡ not c
kept_or_not b c is = by_test (is_fragment_byte b) (sym (encoded_is b) ∙ is)
  where
    by_test : (d : Bool) → not d ≡ c → d ≡ not c
    by_test true h = ap not h
    by_test false h = ap not h

pub byte_no_unit : (s rest : Text) (b : ℕ) → s ≡ b ∷ rest → b ≢ 37 → should_percent_encode ENCODED b ≡ true → StartsNoUnit s
byte_no_unit s rest b is other test = inr (inl (b, rest, is, kept_or_not b true test, other))

pub byte_unit : (s rest : Text) (b : ℕ) → s ≡ b ∷ rest → should_percent_encode ENCODED b ≡ false → StartsUnit s rest
byte_unit s rest b is test = (b ∷ [], b, is, itself b (kept_or_not b false test) nothing)

nil_encodes : (s bs : Text) (b : ℕ) → s ≡ [] → Encodes s (b ∷ bs) → ⊥
nil_encodes s bs b none p =
    let same : b ∷ bs ≡ [] = one_bytes (subst (λ (t : Text). Encodes t (b ∷ bs)) none p) nothing in
    let no : ⊥ = cc in no

stuck_encodes : (s bs : Text) (b : ℕ) → IsStuck s → Encodes s (b ∷ bs) → ⊥
stuck_encodes s bs b stuck p = stuck.some (stuck.none s (b ∷ bs) [] p (sym (append-nil s)))

pub has_unit : (s bs : Text) (b : ℕ) → Encodes s (b ∷ bs) → StartsNoUnit s → ⊥
has_unit s bs b p = ⊎_elim
    (λ none. nil_encodes s bs b none p)
    (⊎_elim (λ bad. stuck_encodes s bs b (byte_stuck s bad) p) (λ bad. stuck_encodes s bs b (escape_stuck s bad) p))

-- what follows the first unit encodes the other bytes
encodes_after : {unit : Text} (after : Text) (b : ℕ) (cs : Text) → Encodes unit (b ∷ []) → Encodes (unit ++ after) cs → (ds : Text) × (cs ≡ b ∷ ds) × Encodes after ds
encodes_after after b cs (itself _ kept nothing) (itself {bs = ds} _ again q) = (ds, refl, q)
encodes_after after b cs (itself _ kept nothing) (escape h l high low q) = absurd (not_percent 37 kept refl)
encodes_after after b cs (escape h l high low nothing) (itself c kept q) = absurd (not_percent 37 kept refl)
encodes_after after b cs (escape h l high low nothing) (escape {bs = ds} _ _ high2 low2 q) = (ds, refl, q)

unit_some : {unit : Text} {b : ℕ} → Encodes unit (b ∷ []) → 0 < length unit
unit_some (itself b kept p) = omega arith
unit_some (escape h l high low p) = omega arith

-- a step is shorter
pub unit_shorter : (s after : Text) → StartsUnit s after → length after < length s
unit_shorter s after (unit, b, is, p) = omega (arith, unit_some p, ap (λ (t : Text). length t) is, length-append unit after)

-- ---- the first fault

-- `left` is what is left of `s` after what encodes some bytes
abbrev pub IsLeft : Text → Text → Type 0
IsLeft s left = (front bs : Text) × (s ≡ front ++ left) × Encodes front bs

pub left_all : (s : Text) → IsLeft s s
left_all s = ([], [], refl, nothing)

pub left_more : (s left after : Text) → IsLeft s left → StartsUnit left after → IsLeft s after
left_more s left after (front, bs, is, p) (unit, b, cut, q) =
    (front ++ unit, bs ++ b ∷ [], is ∙ ap (λ (t : Text). front ++ t) cut ∙ sym (append_assoc front unit after), encodes_append p q)

pub left_none : (s left : Text) → IsLeft s left → left ≡ [] → (bs : Text) × Encodes s bs
left_none s left (front, bs, is, p) none =
    (bs, subst (λ (t : Text). Encodes t bs) (sym (is ∙ ap (λ (t : Text). front ++ t) none ∙ append-nil front)) p)

offset_is : (s front left : Text) (offset : ℕ) → s ≡ front ++ left → offset ≡ length s - length left + 1 → offset ≡ length front + 1
offset_is s front left offset is at = omega (arith, at, ap (λ (t : Text). length t) is, length-append front left)

pub fault_is : (s left rest : Text) (b offset : ℕ) (e : FragmentError) → IsLeft s left → left ≡ b ∷ rest → StartsNoUnit left → offset ≡ length s - length left + 1 → (b ≡ 37 → e ≡ BadEscape offset) → (b ≢ 37 → e ≡ BadByte offset) → IsFragmentErrorOf (35 ∷ s) e
fault_is s left rest b offset e (front, bs, is, p) begins none at when_percent when_other = ⊎_elim
    (λ (h : left ≡ []). let no : ⊥ = cc in absurd no)
    (⊎_elim by_byte by_escape)
    none
  where
    reaches : Reaches (35 ∷ s) bs offset left
    reaches = (front, ap (λ (t : Text). 35 ∷ t) is, p, offset_is s front left offset is at)

    by_byte : StartsBadByte left → IsFragmentErrorOf (35 ∷ s) e
    by_byte bad =
        let same : b ≡ bad.0 = cc in
        subst (λ (f : FragmentError). IsFragmentErrorOf (35 ∷ s) f) (sym (when_other (λ h. bad.4 (sym same ∙ h)))) (bs, left, reaches, bad)

    by_escape : StartsBadEscape left → IsFragmentErrorOf (35 ∷ s) e
    by_escape bad =
        let same : b ≡ 37 = cc in
        subst (λ (f : FragmentError). IsFragmentErrorOf (35 ∷ s) f) (sym (when_percent same)) (bs, left, reaches, bad)

-- ---- the position of a byte

-- `left` encodes the bytes of `all` from the position `k` on
abbrev pub IsAt : Text → Text → Text → ℕ → Type 0
IsAt s all left k = (front bs cs : Text) × (s ≡ front ++ left) × Encodes front bs × Encodes left cs × (all ≡ bs ++ cs) × (length bs ≡ k)

pub at_start : (s all : Text) → Encodes s all → IsAt s all s 0
at_start s all p = ([], [], all, refl, nothing, p, refl, refl)

cons_of : (cs : Text) → 0 < length cs → (b : ℕ) × (ds : Text) × (cs ≡ b ∷ ds)
cons_of [] h = absurd (omega (arith, h))
cons_of (b ∷ ds) h = (b, ds, refl)

pub at_byte : (s all left : Text) (k : ℕ) → IsAt s all left k → k < length all → (b : ℕ) × (bs : Text) × Encodes left (b ∷ bs)
at_byte s all left k (front, bs, cs, is, p, q, all_is, long) within =
    let more : 0 < length cs = omega (arith, long, within, ap (λ (t : Text). length t) all_is, length-append bs cs) in
    let cut = cons_of cs more in
    (cut.0, cut.1, subst (λ (t : Text). Encodes left t) cut.2 q)

pub at_next : (s all left after : Text) (k : ℕ) → IsAt s all left k → StartsUnit left after → IsAt s all after (k + 1)
at_next s all left after k (front, bs, cs, is, p, q, all_is, long) (unit, b, cut, u) =
    let rest = encodes_after after b cs u (subst (λ (t : Text). Encodes t cs) cut q) in (
      front ++ unit,
      bs ++ b ∷ [],
      rest.0,
      is ∙ ap (λ (t : Text). front ++ t) cut ∙ sym (append_assoc front unit after),
      encodes_append p u,
      rest.2,
      all_is ∙ ap (λ (t : Text). bs ++ t) rest.1 ∙ sym (append_assoc bs (b ∷ []) rest.0),
      omega (arith, long, length-append bs (b ∷ [])),
    )

pub at_offset : (s all left : Text) (k n offset : ℕ) → IsAt s all left k → k ≡ n → offset ≡ length s - length left + 1 → (bs cs back : Text) × Reaches (35 ∷ s) bs offset back × Encodes back cs × (all ≡ bs ++ cs) × (length bs ≡ n)
at_offset s all left k n offset (front, bs, cs, is, p, q, all_is, long) same at =
    (bs, cs, left, (front, ap (λ (t : Text). 35 ∷ t) is, p, offset_is s front left offset is at), q, all_is, long ∙ same)

pub at_within : (s all left : Text) (k : ℕ) → IsAt s all left k → length left ≤ length s
at_within s all left k (front, bs, cs, is, p, q, all_is, long) = omega (arith, ap (λ (t : Text). length t) is, length-append front left)
