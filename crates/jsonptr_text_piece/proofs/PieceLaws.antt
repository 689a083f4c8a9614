-- Pieces of a text, and the white space around them.
use Rattle.std.proofs.Common.{◌≡◌, ◌≢◌, ◌⊎◌, inl, inr, ℕ, ◌+◌, ◌-◌, List, [], ◌∷◌, ◌++◌, length, take, drop, true, false, true≢false, Some, refl, sym, ap, ap₂, ◌∙◌, subst, arith, append_assoc, length-append, take-append-drop}
use Rattle.std.specs.Prelude.{◌↔◌, slice_get}
use Rattle.std.proofs.lemmas.List.Elements.{All-nil, All-cons, All-head, All-tail, All-append}
use Rattle.std.proofs.Math.Seq.{take-append_seam, drop-append_seam}
use Rattle.json.specs.Word.{is_space}
use Rattle.jsonptr_text_piece.specs.Spacing.{IsBlank, IsSpaced, IsTrimmed, Splices}

abbrev Bytes : Type 0
Bytes = List ℕ

-- ---- a piece that is replaced

-- what is after a piece
after_piece : (text before piece after : Bytes) → text ≡ before ++ (piece ++ after) → drop (length before + length piece) text ≡ after
after_piece text before piece after is =
    let both : text ≡ (before ++ piece) ++ after = is ∙ sym (append_assoc before piece after) in
    let long : length before + length piece ≡ length (before ++ piece) = sym (length-append before piece) in
    ap₂ (λ (n : ℕ) (t : Bytes). drop n t) long both ∙ drop-append_seam (before ++ piece) after

from_piece : (text before piece after : Bytes) → text ≡ before ++ (piece ++ after) → drop (length before) text ≡ piece ++ drop (length before + length piece) text
from_piece text before piece after is =
    ap (drop (length before)) is ∙ drop-append_seam before (piece ++ after) ∙ ap (λ (t : Bytes). piece ++ t) (sym (after_piece text before piece after is))

to_piece : (text before piece after : Bytes) → text ≡ before ++ (piece ++ after) → take (length before) text ≡ before
to_piece text before piece after is = ap (take (length before)) is ∙ take-append_seam before (piece ++ after)

pub spliced : (old new middle piece : Bytes) → Splices old new middle piece ↔ ((n : ℕ) × (take n new ≡ take n old) × (drop n old ≡ middle ++ drop (n + length middle) old) × (drop n new ≡ piece ++ drop (n + length piece) new) × (drop (n + length piece) new ≡ drop (n + length middle) old))
spliced old new middle piece = (
  λ h. (
    length h.before,
    to_piece new h.before piece h.after h.new_is ∙ sym (to_piece old h.before middle h.after h.old_is),
    from_piece old h.before middle h.after h.old_is,
    from_piece new h.before piece h.after h.new_is,
    after_piece new h.before piece h.after h.new_is ∙ sym (after_piece old h.before middle h.after h.old_is),
  ),
  λ h. record {
    before = take h.0 old;
    after = drop (h.0 + length middle) old;
    old_is = sym (take-append-drop h.0 old) ∙ ap (λ (t : Bytes). take h.0 old ++ t) h.2;
    new_is = sym (take-append-drop h.0 new) ∙ ap₂ (λ (s t : Bytes). s ++ t) h.1 (h.3 ∙ ap (λ (t : Bytes). piece ++ t) h.4);
  },
)

-- ---- white space

pub blank_parts : (xs ys : Bytes) → IsBlank (xs ++ ys) → IsBlank xs × IsBlank ys
blank_parts [] ys h = (All-nil (λ b. is_space b ≡ true), h)
blank_parts (x ∷ xs) ys h =
    let rest = blank_parts xs ys (All-tail (λ b. is_space b ≡ true) x (xs ++ ys) h) in
    (All-cons (λ b. is_space b ≡ true) x xs (All-head (λ b. is_space b ≡ true) x (xs ++ ys) h) rest.0, rest.1)

pub blank_both : (xs ys : Bytes) → IsBlank xs → IsBlank ys → IsBlank (xs ++ ys)
blank_both xs ys h k = All-append (λ b. is_space b ≡ true) xs ys h k

pub blank_more : (x : ℕ) (xs : Bytes) → is_space x ≡ true → IsBlank xs → IsBlank (x ∷ xs)
blank_more x xs h k = All-cons (λ b. is_space b ≡ true) x xs h k

pub no_blank : IsBlank []
no_blank = All-nil (λ b. is_space b ≡ true)

pub first_blank : (x : ℕ) (xs : Bytes) → IsBlank (x ∷ xs) → is_space x ≡ true
first_blank x xs h = All-head (λ b. is_space b ≡ true) x xs h

pub rest_blank : (x : ℕ) (xs : Bytes) → IsBlank (x ∷ xs) → IsBlank xs
rest_blank x xs h = All-tail (λ b. is_space b ≡ true) x xs h

-- ---- a text without white space around it

not_both : (x : ℕ) → is_space x ≡ true → is_space x ≡ false → ⊥
not_both x h k = true≢false (sym h ∙ k)

fronts_same : (before lead : Bytes) (x : ℕ) (xs : Bytes) (y : ℕ) (ys : Bytes) → IsBlank before → IsBlank lead → is_space x ≡ false → is_space y ≡ false → before ++ x ∷ xs ≡ lead ++ y ∷ ys → (before ≡ lead) × (x ∷ xs ≡ y ∷ ys)
fronts_same [] [] x xs y ys h k dark dim e = (refl, e)
fronts_same [] (b ∷ lead) x xs y ys h k dark dim e =
    let same : b ≡ x = cc in
    absurd (not_both x (ap is_space (sym same) ∙ first_blank b lead k) dark)
fronts_same (a ∷ before) [] x xs y ys h k dark dim e =
    let same : a ≡ y = cc in
    absurd (not_both y (ap is_space (sym same) ∙ first_blank a before h) dim)
fronts_same (a ∷ before) (b ∷ lead) x xs y ys h k dark dim e =
    let same : a ≡ b = cc in
    let more : before ++ x ∷ xs ≡ lead ++ y ∷ ys = cc in
    let rest = fronts_same before lead x xs y ys (rest_blank a before h) (rest_blank b lead k) dark dim more in
    (ap₂ (λ (c : ℕ) (t : Bytes). c ∷ t) same rest.0, rest.1)

-- the last byte is no white space
abbrev EndsDark : ℕ → Bytes → Type 0
EndsDark x [] = is_space x ≡ false
EndsDark x (y ∷ t) = EndsDark y t

ends_dark : (x : ℕ) (t : Bytes) → ((b : ℕ) → slice_get (x ∷ t) (length t) ≡ Some b → is_space b ≡ false) → EndsDark x t
ends_dark x [] h = h x refl
ends_dark x (y ∷ t) h = ends_dark y t h

dark_blank : (x : ℕ) (t : Bytes) → EndsDark x t → IsBlank (x ∷ t) → ⊥
dark_blank x [] h k = not_both x (first_blank x [] k) h
dark_blank x (y ∷ t) h k = dark_blank y t h (rest_blank x (y ∷ t) k)

ends_same : (x : ℕ) (o : Bytes) (y : ℕ) (r after trail : Bytes) → EndsDark x o → EndsDark y r → IsBlank after → IsBlank trail → x ∷ (o ++ after) ≡ y ∷ (r ++ trail) → (x ∷ o ≡ y ∷ r) × (after ≡ trail)
ends_same x [] y [] after trail h k p q e = (cc, cc)
ends_same x [] y (z ∷ r) after trail h k p q e =
    let rest : after ≡ (z ∷ r) ++ trail = cc in
    absurd (dark_blank z r k (blank_parts (z ∷ r) trail (subst IsBlank rest p)).0)
ends_same x (z ∷ o) y [] after trail h k p q e =
    let rest : trail ≡ (z ∷ o) ++ after = cc in
    absurd (dark_blank z o h (blank_parts (z ∷ o) after (subst IsBlank rest q)).0)
ends_same x (z ∷ o) y (w ∷ r) after trail h k p q e =
    let same : x ≡ y = cc in
    let more : z ∷ (o ++ after) ≡ w ∷ (r ++ trail) = cc in
    let rest = ends_same z o w r after trail h k p q more in
    (ap₂ (λ (c : ℕ) (t : Bytes). c ∷ t) same rest.0, rest.1)

last_dark : (x : ℕ) (t : Bytes) → IsTrimmed (x ∷ t) → EndsDark x t
last_dark x t h =
    let long : length (x ∷ t) - 1 ≡ length t = omega arith in
    ends_dark x t (λ b e. h.last b (ap (slice_get (x ∷ t)) long ∙ e))

pub one_trimmed : (before one after lead other trail : Bytes) → IsBlank before → IsBlank after → IsTrimmed one → one ≢ [] → IsBlank lead → IsBlank trail → IsTrimmed other → other ≢ [] → before ++ (one ++ after) ≡ lead ++ (other ++ trail) → (before ≡ lead) × (one ≡ other) × (after ≡ trail)
one_trimmed before [] after lead other trail b1 b2 t1 some b3 b4 t2 more e = absurd (some refl)
one_trimmed before (x ∷ o) after lead [] trail b1 b2 t1 some b3 b4 t2 more e = absurd (more refl)
one_trimmed before (x ∷ o) after lead (y ∷ r) trail b1 b2 t1 some b3 b4 t2 more e =
    let fronts = fronts_same before lead x (o ++ after) y (r ++ trail) b1 b3 (t1.first x refl) (t2.first y refl) e in
    let ends = ends_same x o y r after trail (last_dark x o t1) (last_dark y r t2) b2 b4 fronts.1 in
    (fronts.0, ends.0, ends.1)
