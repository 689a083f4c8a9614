-- A text has one sequence of pieces, up to a block comment with no end.
use Rattle.std.proofs.Common.{◌≡◌, ◌≢◌, ℕ, zero, suc, ◌<◌, ◌≤◌, List, [], ◌∷◌, ◌++◌, false, cond, ◌==◌, Option, Some, None, option_map, length, slice_index, refl, sym, ap, ap₂, ◌∙◌, subst, append_assoc, length-append, arith, inl, inr, ◌⊎◌, ne_eqb}
use Rattle.std.proofs.lemmas.Bool.{cases_eq}
use Rattle.std.proofs.lemmas.List.{append_cancel_right}
use Rattle.jsonptr_comments.specs.Comments.{Piece, string, comment, other, spelled, IsWhole, Pieces, IsInBlock, EndsComment, IsUnterminated, all_without}
use Rattle.jsonptr_comments.specs.PrivateScanning.{after_string, after_line, after_block}
use Rattle.jsonptr_comments.proofs.ScanningLemmas.{after_string-of, after_string-is, after_line-of, after_line-is, after_block-of, after_block-some, after_block-none}
use Rattle.jsonptr_comments.proofs.PieceLemmas.{same_length}

-- ---- the kind of the first piece, and what follows it

abbrev tag : Piece → ℕ
tag (string s) = 0
tag (comment s) = 1
tag (other x) = 2

abbrev first_at_slash : List ℕ → Option (ℕ × List ℕ)
first_at_slash [] = Some (2, [])
first_at_slash (y ∷ ys) = cond (y == 47) (Some (1, after_line ys)) (cond (y == 42) (option_map (λ r. (1, r)) (after_block ys)) (Some (2, y ∷ ys)))

abbrev first : List ℕ → Option (ℕ × List ℕ)
first [] = None
first (x ∷ xs) = cond (x == 34) (Some (0, after_string xs)) (cond (x == 47) (first_at_slash xs) (Some (2, xs)))

slash_alone : (after : List ℕ) → slice_index after 0 ≢ 47 → slice_index after 0 ≢ 42 → first_at_slash after ≡ Some (2, after)
slash_alone [] h k = refl
slash_alone (y ∷ ys) h k =
    let line = ne_eqb y 47 h in
    let block = ne_eqb y 42 k in
    rw (line, block) refl

other_first : (x : ℕ) (after : List ℕ) → x ≢ 34 → (x ≡ 47 → (slice_index after 0 ≢ 47) × (slice_index after 0 ≢ 42)) → (x ≡ 47) ⊎ (x ≢ 47) → first (x ∷ after) ≡ Some (2, after)
other_first x after q s (inl e) =
    let quote = ne_eqb x 34 q in
    let h = s e in
    rw (quote, e) (slash_alone after h.0 h.1)
other_first x after q s (inr n) =
    let quote = ne_eqb x 34 q in
    let slash = ne_eqb x 47 n in
    rw (quote, slash) refl

comment_first : (s t after : List ℕ) → EndsComment s t after → first_at_slash (s ++ after) ≡ Some (1, after)
comment_first s t after (inl h) = ap (λ r. first_at_slash (r ++ after)) h.0 ∙ ap (λ r. Some (1, r)) (after_line-of t after h.1 h.2)
comment_first s t after (inr h) =
    ap (λ r. first_at_slash (r ++ after)) h.0
    ∙ ap (option_map (λ r. (1, r))) (ap after_block (append_assoc t (42 ∷ 47 ∷ []) after) ∙ after_block-of t after h.1)

first_of : (p : Piece) (after : List ℕ) → IsWhole p after → first (spelled p ++ after) ≡ Some (tag p, after)
first_of (string s) after h = ap (λ r. Some (0, r)) (after_string-of s after h)
first_of (comment s) after h = comment_first s h.0 after h.1
first_of (other x) after h = other_first x after h.0 h.1 (cases_eq x 47)

-- what pieces may leave: nothing, or a block comment with no end
abbrev pub IsRest : List ℕ → Type 0
IsRest r = (r ≡ []) ⊎ ((inside : List ℕ) × (r ≡ 47 ∷ 42 ∷ inside) × IsInBlock inside)

no_block : (inside r : List ℕ) (o : Option (List ℕ)) → IsInBlock inside → after_block inside ≡ o → o ≡ None
no_block inside r None h e = refl
no_block inside r (Some after) h e = let k = after_block-some inside after e in absurd (h k.0 after k.1)

none_left : (r : List ℕ) → IsRest r → first r ≡ None
none_left r (inl e) = ap first e
none_left r (inr h) = ap first h.1 ∙ ap (option_map (λ t. (1, t))) (no_block h.0 r (after_block h.0) h.2 refl)

same_piece : (p q : Piece) → tag p ≡ tag q → spelled p ≡ spelled q → p ≡ q
same_piece (string s) (string t) e h = cc
same_piece (comment s) (comment t) e h = cc
same_piece (other x) (other y) e h = cc
same_piece (string s) (comment t) e h = cc
same_piece (string s) (other t) e h = cc
same_piece (comment s) (string t) e h = cc
same_piece (comment s) (other t) e h = cc
same_piece (other s) (string t) e h = cc
same_piece (other s) (comment t) e h = cc

abbrev tag_in : Option (ℕ × List ℕ) → ℕ
tag_in None = 0
tag_in (Some x) = x.0

abbrev after_in : Option (ℕ × List ℕ) → List ℕ
after_in None = []
after_in (Some x) = x.1

same_first : (text : List ℕ) (p q : Piece) (x y : List ℕ) → text ≡ spelled p ++ x → IsWhole p x → text ≡ spelled q ++ y → IsWhole q y → (p ≡ q) × (x ≡ y)
same_first text p q x y e s f t =
    let one : first text ≡ Some (tag p, x) = ap first e ∙ first_of p x s in
    let two : first text ≡ Some (tag q, y) = ap first f ∙ first_of q y t in
    let kind : tag p ≡ tag q = ap tag_in (sym one ∙ two) in
    let after : x ≡ y = ap after_in (sym one ∙ two) in
    let spell : spelled p ≡ spelled q = append_cancel_right (spelled p) (spelled q) y (ap (λ r. spelled p ++ r) (sym after) ∙ (sym e ∙ f)) in
    (same_piece p q kind spell, after)

some_first : (text : List ℕ) (p : Piece) (x : List ℕ) → text ≡ spelled p ++ x → IsWhole p x → first text ≡ None → ⊥
some_first text p x e s n =
    let some : first text ≡ Some (tag p, x) = ap first e ∙ first_of p x s in
    let wrong : ⊥ = cc in
    wrong

pub unique : (text : List ℕ) (ps qs : List Piece) (r s : List ℕ) → Pieces text ps r → Pieces text qs s → IsRest r → IsRest s → (ps ≡ qs) × (r ≡ s)
unique text [] [] r s h k m n = (refl, sym h ∙ k)
unique text [] (q ∷ qs) r s h k m n = absurd (some_first text q k.0 k.1 k.2 (ap first h ∙ none_left r m))
unique text (p ∷ ps) [] r s h k m n = absurd (some_first text p h.0 h.1 h.2 (ap first k ∙ none_left s n))
unique text (p ∷ ps) (q ∷ qs) r s h k m n =
    let both = same_first text p q h.0 k.0 h.1 h.2 k.1 k.2 in
    let rest = unique h.0 ps qs r s h.3 (subst (λ (t : List ℕ). Pieces t qs s) (sym both.1) k.3) m n in
    (ap₂ (λ x xs. x ∷ xs) both.0 rest.0, rest.1)

-- the pieces of a text begin with any pieces that it begins with
pub begins : (text : List ℕ) (ps qs : List Piece) (r : List ℕ) → Pieces text ps r → Pieces text qs [] → (more : List Piece) × (qs ≡ ps ++ more) × Pieces r more []
begins text [] qs r h k = (qs, refl, subst (λ (t : List ℕ). Pieces t qs []) h k)
begins text (p ∷ ps) [] r h k = absurd (some_first text p h.0 h.1 h.2 (ap first k))
begins text (p ∷ ps) (q ∷ qs) r h k =
    let both = same_first text p q h.0 k.0 h.1 h.2 k.1 k.2 in
    let rest = begins h.0 ps qs r h.3 (subst (λ (t : List ℕ). Pieces t qs []) (sym both.1) k.3) in
    (rest.0, ap₂ (λ x xs. x ∷ xs) (sym both.0) rest.1, rest.2)

-- ---- every text has pieces, up to a block comment with no end

abbrev HasPiece : List ℕ → Type 0
HasPiece t = (p : Piece) × (after : List ℕ) × (t ≡ spelled p ++ after) × IsWhole p after

abbrev IsOpen : List ℕ → Type 0
IsOpen t = (inside : List ℕ) × (t ≡ 47 ∷ 42 ∷ inside) × IsInBlock inside

block_case : (ys : List ℕ) (o : Option (List ℕ)) → after_block ys ≡ o → HasPiece (47 ∷ 42 ∷ ys) ⊎ IsOpen (47 ∷ 42 ∷ ys)
block_case ys None e = inr (ys, refl, after_block-none ys e)
block_case ys (Some after) e =
    let h = after_block-some ys after e in
    inl (comment (42 ∷ (h.0 ++ 42 ∷ 47 ∷ [])), after, ap (λ t. 47 ∷ 42 ∷ t) (h.1 ∙ sym (append_assoc h.0 (42 ∷ 47 ∷ []) after)), (h.0, inr (refl, h.2)))

slash_case : (y : ℕ) (ys : List ℕ) → (y ≡ 47) ⊎ (y ≢ 47) → (y ≡ 42) ⊎ (y ≢ 42) → HasPiece (47 ∷ y ∷ ys) ⊎ IsOpen (47 ∷ y ∷ ys)
slash_case y ys (inl e) k =
    let h = after_line-is ys in
    inl (comment (47 ∷ h.0), after_line ys, ap₂ (λ b t. 47 ∷ b ∷ t) e h.1, (h.0, inl (refl, h.2, h.3)))
slash_case y ys (inr n) (inl e) = subst (λ (b : ℕ). HasPiece (47 ∷ b ∷ ys) ⊎ IsOpen (47 ∷ b ∷ ys)) (sym e) (block_case ys (after_block ys) refl)
slash_case y ys (inr n) (inr m) = inl (other 47, y ∷ ys, refl, (λ e. absurd (omega (arith, e)), λ _. (n, m)))

at_slash : (xs : List ℕ) → HasPiece (47 ∷ xs) ⊎ IsOpen (47 ∷ xs)
at_slash [] = inl (other 47, [], refl, (λ e. absurd (omega (arith, e)), λ _. (λ e. absurd (omega (arith, e)), λ e. absurd (omega (arith, e)))))
at_slash (y ∷ ys) = slash_case y ys (cases_eq y 47) (cases_eq y 42)

some_piece : (x : ℕ) (xs : List ℕ) → (x ≡ 34) ⊎ (x ≢ 34) → (x ≡ 47) ⊎ (x ≢ 47) → HasPiece (x ∷ xs) ⊎ IsOpen (x ∷ xs)
some_piece x xs (inl e) k = let h = after_string-is xs in inl (string h.0, after_string xs, ap₂ (λ b t. b ∷ t) e h.1, h.2)
some_piece x xs (inr n) (inl e) = subst (λ (b : ℕ). HasPiece (b ∷ xs) ⊎ IsOpen (b ∷ xs)) (sym e) (at_slash xs)
some_piece x xs (inr n) (inr m) = inl (other x, xs, refl, (n, λ e. absurd (m e)))

abbrev HasPieces : List ℕ → Type 0
HasPieces t = ((ps : List Piece) × Pieces t ps []) ⊎ ((ps : List Piece) × (inside : List ℕ) × Pieces t ps (47 ∷ 42 ∷ inside) × IsInBlock inside)

spelled_some : (p : Piece) → 0 < length (spelled p)
spelled_some (string s) = omega arith
spelled_some (comment s) = omega arith
spelled_some (other x) = omega arith

one_before : (t : List ℕ) (p : Piece) (after : List ℕ) → t ≡ spelled p ++ after → IsWhole p after → HasPieces after → HasPieces t
one_before t p after e s (inl h) = inl (p ∷ h.0, (after, e, s, h.1))
one_before t p after e s (inr h) = inr (p ∷ h.0, h.1, (after, e, s, h.2), h.3)

all_pieces : (n : ℕ) (t : List ℕ) → length t ≤ n → HasPieces t
all_pieces n [] l = inl ([], refl)
all_pieces zero (x ∷ xs) l = absurd (omega arith)
all_pieces (suc n) (x ∷ xs) l =
    elim (some_piece x xs (cases_eq x 34) (cases_eq x 47)) as (λ _. HasPieces (x ∷ xs)) [
      | inl h ↦
          one_before (x ∷ xs) h.0 h.1 h.2 h.3
          (all_pieces n h.1 (omega (arith, ap length h.2, length-append (spelled h.0) h.1, spelled_some h.0)))
      | inr h ↦ inr ([], h.0, h.1, h.2)
    ]

pub pieces_or_open : (t : List ℕ) → ((ps : List Piece) × Pieces t ps []) ⊎ ((n : ℕ) × IsUnterminated t n)
pieces_or_open t =
    elim (all_pieces (length t) t (omega arith)) as (λ _. ((ps : List Piece) × Pieces t ps []) ⊎ ((n : ℕ) × IsUnterminated t n)) [
      | inl h ↦ inl h
      | inr h ↦
          inr (length (all_without false h.0 false), record { ps = h.0; inside = h.1; pieces = h.2; endless = h.3; offset = same_length false false t h.0 (47 ∷ 42 ∷ h.1) h.2 })
    ]

pub not_both : (t : List ℕ) (ps : List Piece) (n : ℕ) → Pieces t ps [] → IsUnterminated t n → ⊥
not_both t ps n h u =
    let both = unique t ps u.ps [] (47 ∷ 42 ∷ u.inside) h u.pieces (inl refl) (inr (u.inside, refl, u.endless)) in
    let wrong = both.1 in
    cc

pub one_offset : (t : List ℕ) (m n : ℕ) → IsUnterminated t m → IsUnterminated t n → m ≡ n
one_offset t m n u v =
    let both = unique t u.ps v.ps (47 ∷ 42 ∷ u.inside) (47 ∷ 42 ∷ v.inside) u.pieces v.pieces (inr (u.inside, refl, u.endless)) (inr (v.inside, refl, v.endless)) in
    omega (arith, u.offset, v.offset, ap length both.1)
