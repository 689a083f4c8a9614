-- The relations on parts of a pointer, and on its labels, have unique results.
use Rattle.std.proofs.Common.{◌≡◌, ℕ, ◌+◌, ◌<◌, ◌≤◌, ◌^◌, List, [], ◌∷◌, ◌++◌, Option, Some, None, length, refl, sym, ap, ◌∙◌, ⊎_elim, inl, inr, arith, length-append}
use Rattle.std.specs.declared.ops.Bound.{Bound}
use Rattle.std.specs.declared.ops.Bound.TheVariants.{Included, Excluded, Unbounded}
use Rattle.std.specs.Prelude.{slice_get}
use Rattle.std.proofs.lemmas.Bool.{cases_lt, cases_eq}
use Rattle.std.proofs.lemmas.List.{append_cancel_left, append_cancel_right, same_from_push}
use Rattle.jsonptr.specs.Text.{Text, esc, text}
use Rattle.jsonptr.specs.Diagnostic.{Mark}
use Rattle.jsonptr.specs.ParseError.{IsParseErrorLabelled}
use Rattle.jsonptr.specs.Token as token
use Rattle.jsonptr.specs.Index as index
use Rattle.jsonptr.specs.TokenLabel.{IsTokenLabelled, IsSpan, offset_after_slash}
use Rattle.jsonptr.specs.Ends.{IsFirstOf, IsLastOf}
use Rattle.jsonptr.specs.Parts.{SplitsAt, IsLongestCommonPrefix}
use Rattle.jsonptr.specs.Slice.{GivesPart, GivesAll, GivesBounds}
use Rattle.jsonptr.specs.Types.ParseError.{ParseError}
use Rattle.jsonptr.specs.Types.ParseError.TheVariants.{NoLeadingSlash, InvalidEncoding}
use Rattle.jsonptr.specs.Types.EncodingError.{EncodingError}
use Rattle.jsonptr.specs.Types.InvalidEncoding as cause
use Rattle.jsonptr.specs.Types.InvalidEncoding.TheVariants.{Tilde, Slash}
use Rattle.jsonptr.specs.Types.ParseIndexError.{ParseIndexError}
use Rattle.jsonptr.specs.Types.ParseIndexError.TheVariants.{InvalidInteger, LeadingZeros, InvalidCharacter}
use Rattle.jsonptr.specs.declared.pointer.Pointer.{Pointer}
use Rattle.jsonptr.specs.Pointer.{tokens, IsSplitAt, IsParentOf, IsWithoutPrefix, IsWithoutSuffix}
use Rattle.jsonptr_grammar.proofs.PointerLemmas.{length-text-cons}
use Rattle.jsonptr_laws.specs.Answers.{SamePointer, SamePointers}

-- ---- a list in two

-- two prefixes of one list whose texts have the same length are equal
same_text_front : (f r g s : List Text) → f ++ r ≡ g ++ s → length (text f) ≡ length (text g) → (f ≡ g) × (r ≡ s)
same_text_front [] r [] s e h = (refl, e)
same_text_front [] r (y ∷ g) s e h = absurd (omega (arith, h, length-text-cons y g))
same_text_front (x ∷ f) r [] s e h = absurd (omega (arith, h, length-text-cons x f))
same_text_front (x ∷ f) r (y ∷ g) s e h =
    let first : x ≡ y = cc in
    let others : f ++ r ≡ g ++ s = cc in
    let as_long : length (esc x) ≡ length (esc y) = ap (λ (t : Text). length (esc t)) first in
    let more = same_text_front f r g s others (omega (arith, h, as_long, length-text-cons x f, length-text-cons y g)) in
    (cc (first, more.0), more.1)

pub split_one : (ts front rest other after : List Text) (offset : ℕ) → SplitsAt ts offset front rest → SplitsAt ts offset other after → (front ≡ other) × (rest ≡ after)
split_one ts front rest other after offset h k = same_text_front front rest other after (sym h.split ∙ k.split) (h.place ∙ sym k.place)

-- two prefixes of one list that have the same length are equal
same_fronts : (f r g s : List Text) → f ++ r ≡ g ++ s → length f ≡ length g → (f ≡ g) × (r ≡ s)
same_fronts [] r [] s e h = (refl, e)
same_fronts [] r (y ∷ g) s e h = absurd (omega (arith, h))
same_fronts (x ∷ f) r [] s e h = absurd (omega (arith, h))
same_fronts (x ∷ f) r (y ∷ g) s e h =
    let first : x ≡ y = cc in
    let others : f ++ r ≡ g ++ s = cc in
    let more = same_fronts f r g s others (omega (arith, h)) in
    (cc (first, more.0), more.1)

pub split_at_one : (ts : List Text) (n : ℕ) (r q : Option (Pointer × Pointer)) → IsSplitAt ts n r → IsSplitAt ts n q → SamePointers r q
split_at_one ts n None None h k = refl
split_at_one ts n None (Some q) h k = absurd (omega (arith, h, k.1, ap length k.0, length-append (tokens q.0) (tokens q.1)))
split_at_one ts n (Some p) None h k = absurd (omega (arith, k, h.1, ap length h.0, length-append (tokens p.0) (tokens p.1)))
split_at_one ts n (Some p) (Some q) h k = same_fronts (tokens p.0) (tokens p.1) (tokens q.0) (tokens q.1) (sym h.0 ∙ k.0) (h.1 ∙ sym k.1)

pub common_one : (ts us front other : List Text) → IsLongestCommonPrefix ts us front → IsLongestCommonPrefix ts us other → front ≡ other
common_one ts us front other h k =
    let upto : length other ≤ length front = h.longest other k.first k.second in
    let from : length front ≤ length other = k.longest front h.first h.second in
    (same_fronts front h.first.0 other k.first.0 (sym h.first.1 ∙ k.first.1) (omega (arith, upto, from))).0

-- ---- the ends of a list

some_end : (front : List Text) (t : Text) → front ++ t ∷ [] ≡ [] → ⊥
some_end front t e = omega (arith, ap length e, length-append front (t ∷ []))

pub first_one : (ts : List Text) (r q : Option Text) → IsFirstOf ts r → IsFirstOf ts q → r ≡ q
first_one ts None None h k = refl
first_one ts None (Some u) h k = absurd (omega (arith, ap length (sym k.1 ∙ h)))
first_one ts (Some t) None h k = absurd (omega (arith, ap length (sym h.1 ∙ k)))
first_one ts (Some t) (Some u) h k = let same : t ≡ u = cc (h.1, k.1) in ap Some same

pub last_one : (ts : List Text) (r q : Option Text) → IsLastOf ts r → IsLastOf ts q → r ≡ q
last_one ts None None h k = refl
last_one ts None (Some u) h k = absurd (some_end k.0 u (sym k.1 ∙ h))
last_one ts (Some t) None h k = absurd (some_end h.0 t (sym h.1 ∙ k))
last_one ts (Some t) (Some u) h k = ap Some (same_from_push h.0 k.0 t u (sym h.1 ∙ k.1)).1

pub parent_one : (ts : List Text) (r q : Option Pointer) → IsParentOf ts r → IsParentOf ts q → SamePointer r q
parent_one ts None None h k = refl
parent_one ts None (Some u) h k = absurd (some_end (tokens u) k.0 (sym k.1 ∙ h))
parent_one ts (Some p) None h k = absurd (some_end (tokens p) h.0 (sym h.1 ∙ k))
parent_one ts (Some p) (Some u) h k = (same_from_push (tokens p) (tokens u) h.0 k.0 (sym h.1 ∙ k.1)).0

-- ---- a list without a prefix or a suffix

pub without_prefix_one : (ts us : List Text) (r q : Option Pointer) → IsWithoutPrefix ts us r → IsWithoutPrefix ts us q → SamePointer r q
without_prefix_one ts us None None h k = refl
without_prefix_one ts us None (Some u) h k = absurd (h (tokens u, k))
without_prefix_one ts us (Some p) None h k = absurd (k (tokens p, h))
without_prefix_one ts us (Some p) (Some u) h k = append_cancel_left us (tokens p) (tokens u) (sym h ∙ k)

pub without_suffix_one : (ts us : List Text) (r q : Option Pointer) → IsWithoutSuffix ts us r → IsWithoutSuffix ts us q → SamePointer r q
without_suffix_one ts us None None h k = refl
without_suffix_one ts us None (Some u) h k = absurd (h (tokens u, k))
without_suffix_one ts us (Some p) None h k = absurd (k (tokens p, h))
without_suffix_one ts us (Some p) (Some u) h k = append_cancel_right (tokens p) (tokens u) us (sym h ∙ k)

-- ---- a range of positions

pub part_one : (holds : Type 0) (a b : ℕ) (ts : List Text) (r q : Option Pointer) → GivesPart holds a b ts r → GivesPart holds a b ts q → SamePointer r q
part_one holds a b ts None None h k = refl
part_one holds a b ts None (Some q) h k = absurd (h k.0)
part_one holds a b ts (Some p) None h k = absurd (k h.0)
part_one holds a b ts (Some p) (Some q) h k = h.1 ∙ sym k.1

pub all_one : (ts : List Text) (r q : Option Pointer) → GivesAll ts r → GivesAll ts q → SamePointer r q
all_one ts None q h k = absurd h
all_one ts (Some p) None h k = absurd k
all_one ts (Some p) (Some q) h k = h ∙ sym k

pub bounds_one : (a b : Bound ℕ) (ts : List Text) (r q : Option Pointer) → GivesBounds a b ts r → GivesBounds a b ts q → SamePointer r q
bounds_one (Included a) (Included b) ts r q = part_one _ _ _ ts r q
bounds_one (Included a) (Excluded b) ts r q = part_one _ _ _ ts r q
bounds_one (Included a) Unbounded ts r q = part_one _ _ _ ts r q
bounds_one (Excluded a) (Included b) ts r q = part_one _ _ _ ts r q
bounds_one (Excluded a) (Excluded b) ts r q = part_one _ _ _ ts r q
bounds_one (Excluded a) Unbounded ts r q = part_one _ _ _ ts r q
bounds_one Unbounded (Included b) ts r q = part_one _ _ _ ts r q
bounds_one Unbounded (Excluded b) ts r q = part_one _ _ _ ts r q
bounds_one Unbounded Unbounded ts r q = all_one ts r q

-- ---- labels

pub label_one : (e : ParseError) (len : ℕ) (r q : Option (List Mark)) → IsParseErrorLabelled e len r → IsParseErrorLabelled e len q → r ≡ q
label_one NoLeadingSlash len r q h k = h ∙ sym k
label_one (InvalidEncoding offset source) len r q h k =
    ⊎_elim
    (λ (fits : offset + source.offset < 2 ^ 64). h.0 fits ∙ sym (k.0 fits))
    (λ (past : 2 ^ 64 ≤ offset + source.offset). h.1 past ∙ sym (k.1 past))
    (cases_lt (offset + source.offset) (2 ^ 64))

pub encoding_label_one : (e : EncodingError) (len : ℕ) (r q : Option (List Mark)) → token.IsEncodingErrorLabelled e len r → token.IsEncodingErrorLabelled e len q → r ≡ q
encoding_label_one e len r q = at e.source e.offset
  where
    at : (source : cause.InvalidEncoding) (o : ℕ) → token.IsCauseLabelled source o len r → token.IsCauseLabelled source o len q → r ≡ q
    at Slash o h k = h ∙ sym k
    at Tilde o h k =
        ⊎_elim
        (λ (end : o ≡ len).
        ⊎_elim
        (λ (start : o ≡ 0). h.2 end start ∙ sym (k.2 end start))
        (λ behind. let some : 0 < o = omega (arith, behind) in h.1 end some ∙ sym (k.1 end some))
        (cases_eq o 0))
        (λ inside. h.0 inside ∙ sym (k.0 inside))
        (cases_eq o len)

pub index_label_one : (e : ParseIndexError) (s : Text) (r q : Option (List Mark)) → index.IsIndexErrorLabelled e s r → index.IsIndexErrorLabelled e s q → r ≡ q
index_label_one (InvalidInteger cause) s r q h k = h ∙ sym k
index_label_one LeadingZeros s r q h k = h ∙ sym k
index_label_one (InvalidCharacter o) s r q h k = h ∙ sym k

pub token_label_one : (words : Text) (position o : ℕ) (tokens : List Text) (r q : Option (List Mark)) → IsTokenLabelled words position o tokens r → IsTokenLabelled words position o tokens q → r ≡ q
token_label_one words position o tokens r q h k = at (slice_get tokens position) refl
  where
    at : (x : Option Text) → slice_get tokens position ≡ x → r ≡ q
    at None e = h.none (inl e) ∙ sym (k.none (inl e))
    at (Some x) e =
        ⊎_elim
        (λ fits.
        let span : IsSpan tokens position o (offset_after_slash o tokens) (length (esc x)) = record { token = x; there = e; fits = fits; start_is = refl; len_is = refl } in
        h.one _ _ span ∙ sym (k.one _ _ span))
        (λ over. h.none (inr over) ∙ sym (k.none (inr over)))
        (cases_lt (o + 1) (2 ^ 64))
