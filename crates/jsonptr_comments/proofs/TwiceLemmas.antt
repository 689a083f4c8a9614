-- The new text has the old strings and the other bytes, with blanks between, and nothing in it is to be blanked.
use Rattle.std.proofs.Common.{◌≡◌, ◌≢◌, ℕ, List, [], ◌∷◌, ◌++◌, Bool, true, false, cond, not, ◌||◌, ◌&&◌, ◌==◌, slice_index, map, refl, sym, ap, ap₂, ◌∙◌, subst, arith, inl, inr, eqb-true, ne_eqb}
use Rattle.std.proofs.lemmas.Bool.{cond_both, or_cases, false≢true, true≢false}
use Rattle.json.specs.Word.{is_space}
use Rattle.jsonptr_comments.specs.Comments.{Piece, string, comment, other, spelled, EndsString, IsWhole, Pieces, is_break, value_after, closes, blank, all_without}

-- ---- the pieces of the new text

abbrev others : List ℕ → List Piece
others s = map other s

abbrev cleaned_piece : Bool → Piece → Bool → List Piece
cleaned_piece b (string s) c = string s ∷ []
cleaned_piece b (comment s) c = others (map blank (spelled (comment s)))
cleaned_piece b (other x) c = other (cond ((x == 44) && b && c) 32 x) ∷ []

abbrev pub cleaned : Bool → List Piece → Bool → List Piece
cleaned b [] c = []
cleaned b (p ∷ ps) c = cleaned_piece b p (closes ps c) ++ cleaned (value_after b p) ps c

-- a blank is 10, 13 or 32
blank_is : (P : ℕ → Type 0) → P 10 → P 13 → P 32 → (x : ℕ) → P (blank x)
blank_is P p q r x =
    cond_both (is_break x) x 32 P
    (λ e. elim (or_cases (x == 10) (x == 13) e) [ inl h ↦ subst P (sym (eqb-true x 10 h)) p | inr h ↦ subst P (sym (eqb-true x 13 h)) q ]) (λ e. r)

blanks_stand : (s : List ℕ) (after : List ℕ) (qs : List Piece) (r : List ℕ) → Pieces after qs r → Pieces (map blank s ++ after) (others (map blank s) ++ qs) r
blanks_stand [] after qs r h = h
blanks_stand (x ∷ s) after qs r h = (
  map blank s ++ after,
  refl,
  (
    blank_is (λ y. y ≢ 34) (λ e. omega (arith, e)) (λ e. omega (arith, e)) (λ e. omega (arith, e)) x,
    λ e. absurd (blank_is (λ y. y ≢ 47) (λ f. omega (arith, f)) (λ f. omega (arith, f)) (λ f. omega (arith, f)) x e),
  ),
  blanks_stand s after qs r h,
)

string_stands : (s after new : List ℕ) → (after ≡ [] → new ≡ []) → EndsString s after → EndsString s new
string_stands [] after new h e = h e
string_stands (x ∷ []) after new h (inl e) = inl e
string_stands (x ∷ []) after new h (inr e) = inr (h e)
string_stands (x ∷ y ∷ s) after new h (inl e) = inl (e.0, string_stands s after new h e.1)
string_stands (x ∷ y ∷ s) after new h (inr e) = inr (e.0, e.1, string_stands (y ∷ s) after new h e.2)

nothing_left : (b : Bool) (ps : List Piece) (after : List ℕ) (c : Bool) → Pieces after ps [] → after ≡ [] → all_without b ps c ≡ []
nothing_left b [] after c h e = refl
nothing_left b (string s ∷ ps) after c h e = let wrong = sym e ∙ h.1 in cc
nothing_left b (comment s ∷ ps) after c h e = let wrong = sym e ∙ h.1 in cc
nothing_left b (other x ∷ ps) after c h e = let wrong = sym e ∙ h.1 in cc

-- a slash that begins no comment begins none in the new text
abbrev NoMark : List ℕ → Type 0
NoMark t = (slice_index t 0 ≢ 47) × (slice_index t 0 ≢ 42)

one_byte : (c : Bool) (x : ℕ) (t u : List ℕ) → NoMark (x ∷ t) → NoMark (cond c 32 x ∷ u)
one_byte true x t u h = (λ e. omega (arith, e), λ e. omega (arith, e))
one_byte false x t u h = h

no_mark : (b : Bool) (ps : List Piece) (after : List ℕ) (c : Bool) → Pieces after ps [] → NoMark after → NoMark (all_without b ps c)
no_mark b [] after c h k = (λ e. omega (arith, e), λ e. omega (arith, e))
no_mark b (string s ∷ ps) after c h k = (λ e. omega (arith, e), λ e. omega (arith, e))
no_mark b (comment s ∷ ps) after c h k = absurd (k.0 (ap (λ t. slice_index t 0) h.1))
no_mark b (other x ∷ ps) after c h k =
    one_byte ((x == 44) && b && closes ps c) x h.0 (all_without (value_after b (other x)) ps c) (subst (λ (t : List ℕ). NoMark t) h.1 k)

other_stands : (c : Bool) (x : ℕ) (after new : List ℕ) → (NoMark after → NoMark new) → IsWhole (other x) after → IsWhole (other (cond c 32 x)) new
other_stands true x after new k h = (λ e. omega (arith, e), λ e. absurd (omega (arith, e)))
other_stands false x after new k h = (h.0, λ e. k (h.1 e))

pub cleaned_pieces : (b : Bool) (ps : List Piece) (text : List ℕ) (c : Bool) → Pieces text ps [] → Pieces (all_without b ps c) (cleaned b ps c) []
cleaned_pieces b [] text c h = refl
cleaned_pieces b (string s ∷ ps) text c h =
    (all_without true ps c, refl, string_stands s h.0 (all_without true ps c) (nothing_left true ps h.0 c h.3) h.2, cleaned_pieces true ps h.0 c h.3)
cleaned_pieces b (comment s ∷ ps) text c h = blanks_stand (spelled (comment s)) (all_without b ps c) (cleaned b ps c) [] (cleaned_pieces b ps h.0 c h.3)
cleaned_pieces b (other x ∷ ps) text c h =
    let d = value_after b (other x) in
    (all_without d ps c, refl, other_stands ((x == 44) && b && closes ps c) x h.0 (all_without d ps c) (no_mark d ps h.0 c h.3) h.2, cleaned_pieces d ps h.0 c h.3)

-- ---- nothing is left to blank

closes_blanks : (s : List ℕ) (ps : List Piece) (c : Bool) → closes (others (map blank s) ++ ps) c ≡ closes ps c
closes_blanks [] ps c = refl
closes_blanks (x ∷ s) ps c =
    let space : is_space (blank x) ≡ true = blank_is (λ y. is_space y ≡ true) refl refl refl x in
    ap (λ d. cond d (closes (others (map blank s) ++ ps) c) ((blank x == 93) || (blank x == 125))) space ∙ closes_blanks s ps c

-- before a value nothing changes in what closes
no_comma : (d e : Bool) → (d && false && e) ≡ false
no_comma true e = refl
no_comma false e = refl

same_close : (s k d : Bool) (x y : Bool) → s ≡ k → (k ≡ true → x ≡ y) → cond s x d ≡ cond k y d
same_close s true d x y e h = ap (λ v. cond v x d) e ∙ h refl
same_close s false d x y e h = ap (λ v. cond v x d) e

keeps_false : (x : ℕ) → is_space x ≡ true → value_after false (other x) ≡ false
keeps_false x e = ap (λ v. cond v false (not ((x == 44) || (x == 58) || (x == 91) || (x == 123)))) e

pub closes_cleaned : (ps : List Piece) (c : Bool) → closes (cleaned false ps c) c ≡ closes ps c
closes_cleaned [] c = refl
closes_cleaned (string s ∷ ps) c = refl
closes_cleaned (comment s ∷ ps) c = closes_blanks (spelled (comment s)) (cleaned false ps c) c ∙ closes_cleaned ps c
closes_cleaned (other x ∷ ps) c =
    let d = value_after false (other x) in
    ap (λ v. closes (other (cond v 32 x) ∷ cleaned d ps c) c) (no_comma (x == 44) (closes ps c))
    ∙ same_close (is_space x) (is_space x) ((x == 93) || (x == 125)) (closes (cleaned d ps c) c) (closes ps c) refl (λ e. ap (λ v. closes (cleaned v ps c) c) (keeps_false x e) ∙ closes_cleaned ps c)

not_comma : (x : ℕ) (b d : Bool) → (x == 44) ≡ false → ((x == 44) && b && d) ≡ false
not_comma x b d e = ap (λ v. v && b && d) e

no_space_comma : (x : ℕ) → is_space x ≡ true → (x == 44) ≡ false
no_space_comma x e = ne_eqb x 44 (λ f. true≢false (sym e ∙ ap is_space f))

no_closing_comma : (x : ℕ) → ((x == 93) || (x == 125)) ≡ true → (x == 44) ≡ false
no_closing_comma x e = ne_eqb x 44 (λ f. true≢false (sym e ∙ ap (λ y. (y == 93) || (y == 125)) f))

space_first : (y : ℕ) (b : Bool) (qs : List Piece) (c : Bool) → (y == 44) ≡ false → is_space y ≡ true → all_without b (other y ∷ qs) c ≡ y ∷ all_without b qs c
space_first y b qs c e f = ap₂ (λ u v. cond (u && b && closes qs c) 32 y ∷ all_without (cond v b (not ((y == 44) || (y == 58) || (y == 91) || (y == 123)))) qs c) e f

-- before a closing bracket it does not matter what stood before
space_step : (s : Bool) (x : ℕ) (ps : List Piece) (c : Bool) → is_space x ≡ s → closes (other x ∷ ps) c ≡ true → (closes ps c ≡ true → all_without true ps c ≡ all_without false ps c) → all_without true (other x ∷ ps) c ≡ all_without false (other x ∷ ps) c
space_step true x ps c e h k =
    let no = no_space_comma x e in
    let next : closes ps c ≡ true = sym (ap (λ v. cond v (closes ps c) ((x == 93) || (x == 125))) e) ∙ h in
    space_first x true ps c no e ∙ ap (λ t. x ∷ t) (k next) ∙ sym (space_first x false ps c no e)
space_step false x ps c e h k =
    let closing : ((x == 93) || (x == 125)) ≡ true = sym (ap (λ v. cond v (closes ps c) ((x == 93) || (x == 125))) e) ∙ h in
    let no = no_closing_comma x closing in
    let opens = not ((x == 44) || (x == 58) || (x == 91) || (x == 123)) in
    ap₂ (λ u v. cond (u && true && closes ps c) 32 x ∷ all_without (cond v true opens) ps c) no e
    ∙ sym (ap₂ (λ u v. cond (u && false && closes ps c) 32 x ∷ all_without (cond v false opens) ps c) no e)

pub any_before : (ps : List Piece) (c : Bool) → closes ps c ≡ true → all_without true ps c ≡ all_without false ps c
any_before [] c h = refl
any_before (string s ∷ ps) c h = absurd (false≢true h)
any_before (comment s ∷ ps) c h = ap (λ t. map blank (spelled (comment s)) ++ t) (any_before ps c h)
any_before (other x ∷ ps) c h = space_step (is_space x) x ps c refl h (any_before ps c)

blanks_kept : (b : Bool) (s : List ℕ) (ps : List Piece) (c : Bool) → all_without b (others (map blank s) ++ ps) c ≡ map blank s ++ all_without b ps c
blanks_kept b [] ps c = refl
blanks_kept b (x ∷ s) ps c =
    space_first (blank x) b (others (map blank s) ++ ps) c (blank_is (λ y. (y == 44) ≡ false) refl refl refl x) (blank_is (λ y. is_space y ≡ true) refl refl refl x)
    ∙ ap (λ t. blank x ∷ t) (blanks_kept b s ps c)

abbrev Same : List Piece → Bool → Type 0
Same ps c = (d : Bool) → all_without d (cleaned d ps c) c ≡ all_without d ps c

late_comma : (e : Bool) (ps : List Piece) (c : Bool) → closes ps c ≡ e → Same ps c → all_without true (other (cond e 32 44) ∷ cleaned false ps c) c ≡ cond e 32 44 ∷ all_without false ps c
late_comma true ps c h k = ap (λ t. 32 ∷ t) (any_before (cleaned false ps c) c (closes_cleaned ps c ∙ h) ∙ k false)
late_comma false ps c h k = ap₂ (λ v t. cond v 32 44 ∷ t) (closes_cleaned ps c ∙ h) (k false)

comma_at : (b : Bool) (ps : List Piece) (c : Bool) → Same ps c → all_without b (cleaned b (other 44 ∷ ps) c) c ≡ all_without b (other 44 ∷ ps) c
comma_at false ps c k = ap (λ t. 44 ∷ t) (k false)
comma_at true ps c k = late_comma (closes ps c) ps c refl k

other_step : (t b : Bool) (x : ℕ) (ps : List Piece) (c : Bool) → (x == 44) ≡ t → Same ps c → all_without b (cleaned b (other x ∷ ps) c) c ≡ all_without b (other x ∷ ps) c
other_step true b x ps c e k = subst (λ (y : ℕ). all_without b (cleaned b (other y ∷ ps) c) c ≡ all_without b (other y ∷ ps) c) (sym (eqb-true x 44 e)) (comma_at b ps c k)
other_step false b x ps c e k =
    let d = value_after b (other x) in
    let qs = cleaned d ps c in
    ap (λ v. all_without b (other (cond v 32 x) ∷ qs) c) (not_comma x b (closes ps c) e)
    ∙ ap₂ (λ v t. cond v 32 x ∷ t) (not_comma x b (closes qs c) e ∙ sym (not_comma x b (closes ps c) e)) (k d)

pub all_cleaned : (ps : List Piece) (c b : Bool) → all_without b (cleaned b ps c) c ≡ all_without b ps c
all_cleaned [] c b = refl
all_cleaned (string s ∷ ps) c b = ap (λ t. (34 ∷ s) ++ t) (all_cleaned ps c true)
all_cleaned (comment s ∷ ps) c b =
    blanks_kept b (spelled (comment s)) (cleaned b ps c) c ∙ ap (λ t. map blank (spelled (comment s)) ++ t) (all_cleaned ps c b)
all_cleaned (other x ∷ ps) c b = other_step (x == 44) b x ps c refl (all_cleaned ps c)
