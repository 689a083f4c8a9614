-- Runs of pieces.
use Rattle.std.proofs.Common.{◌≡◌, ◌≢◌, ℕ, ◌+◌, ◌-◌, ◌<◌, ◌≤◌, List, [], ◌∷◌, ◌++◌, Bool, true, false, not, ◌||◌, ◌==◌, Some, None, length, take, drop, get_or, slice_index, refl, sym, ap, ap₂, ◌∙◌, subst, append_assoc, append-nil, length-append, length-drop, arith, inl, inr, take_at, Option, MatchOption, IfSome, IfNone, ne_eqb}
use Rattle.std.proofs.lemmas.Bool.{eq-eqb}
use Rattle.std.proofs.lemmas.List.{drop_more, drop-take, take-take}
use Rattle.json.specs.Word.{is_space}
use Rattle.jsonptr_comments.specs.Comments.{Piece, string, comment, other, spelled, EndsString, EndsComment, IsWhole, Pieces, is_break}
use Rattle.jsonptr_comments.specs.Parts.{spelling, comments_of, BeginsWithPiece, BeginsOpenComment, is_comment, is_line_break, is_white, is_allowed, AreAllowed}
use Rattle.jsonptr_comments.specs.PrivateScanning.{after_string, after_line, after_block}
use Rattle.jsonptr_comments.specs.declared.piece.Allowed.{Allowed}
use Rattle.jsonptr_comments.specs.declared.piece.Allowed.TheVariants.{Any, NoComment, NoBreak, Blank}
use Rattle.jsonptr_comments.proofs.ScanningLemmas.{after_string-is, after_line-is, after_block-some, after_block-none}
use Rattle.jsonptr_comments.proofs.PieceLemmas.{pieces_more}
use Rattle.jsonptr_comments.proofs.StepLemmas.{first_byte, two_bytes, next_byte}

-- ---- the piece at an offset

pub string_piece : (t : List ℕ) (i j : ℕ) → i < length t → get_or t i 0 ≡ 34 → drop j t ≡ after_string (drop (i + 1) t) → BeginsWithPiece (drop i t) (drop j t)
string_piece t i j l x e =
    let h = after_string-is (drop (i + 1) t) in
    (string h.0, first_byte t i 34 l x ∙ ap (λ r. 34 ∷ r) (h.1 ∙ ap (λ r. h.0 ++ r) (sym e)), subst (λ (r : List ℕ). IsWhole (string h.0) r) (sym e) h.2)

pub line_piece : (t : List ℕ) (i j : ℕ) → i + 1 < length t → get_or t i 0 ≡ 47 → get_or t (i + 1) 0 ≡ 47 → drop j t ≡ after_line (drop (i + 2) t) → BeginsWithPiece (drop i t) (drop j t)
line_piece t i j l x y e =
    let h = after_line-is (drop (i + 2) t) in
    let p = comment (47 ∷ h.0) in
    (p, two_bytes t i 47 47 l x y ∙ ap (λ r. 47 ∷ 47 ∷ r) (h.1 ∙ ap (λ r. h.0 ++ r) (sym e)), subst (λ (r : List ℕ). IsWhole p r) (sym e) (h.0, inl (refl, h.2, h.3)))

pub block_piece : (t : List ℕ) (i j : ℕ) → i + 1 < length t → get_or t i 0 ≡ 47 → get_or t (i + 1) 0 ≡ 42 → after_block (drop (i + 2) t) ≡ Some (drop j t) → BeginsWithPiece (drop i t) (drop j t)
block_piece t i j l x y e =
    let h = after_block-some (drop (i + 2) t) (drop j t) e in
    (comment (42 ∷ (h.0 ++ 42 ∷ 47 ∷ [])), two_bytes t i 47 42 l x y ∙ ap (λ r. 47 ∷ 42 ∷ r) (h.1 ∙ sym (append_assoc h.0 (42 ∷ 47 ∷ []) (drop j t))), (h.0, inr (refl, h.2)))

pub open_piece : (t : List ℕ) (i : ℕ) → i + 1 < length t → get_or t i 0 ≡ 47 → get_or t (i + 1) 0 ≡ 42 → after_block (drop (i + 2) t) ≡ None → BeginsOpenComment (drop i t)
open_piece t i l x y e = (drop (i + 2) t, two_bytes t i 47 42 l x y, after_block-none (drop (i + 2) t) e)

pub slash_piece : (t : List ℕ) (i : ℕ) → i < length t → get_or t i 0 ≡ 47 → get_or t (i + 1) 0 ≢ 47 → get_or t (i + 1) 0 ≢ 42 → BeginsWithPiece (drop i t) (drop (i + 1) t)
slash_piece t i l x n m =
    (other 47, first_byte t i 47 l x, (λ e. absurd (omega (arith, e)), λ _. (λ e. n (sym (next_byte t i) ∙ e), λ e. m (sym (next_byte t i) ∙ e))))

pub other_piece : (t : List ℕ) (i : ℕ) → i < length t → get_or t i 0 ≢ 34 → get_or t i 0 ≢ 47 → BeginsWithPiece (drop i t) (drop (i + 1) t)
other_piece t i l n m = (other (get_or t i 0), first_byte t i (get_or t i 0) l refl, (n, λ e. absurd (m e)))

-- ---- which piece it is

-- the first byte of a piece, and its length
first_of : (t : List ℕ) (i j x : ℕ) (s : List ℕ) → i < length t → drop i t ≡ (x ∷ s) ++ drop j t → get_or t i 0 ≡ x
first_of t i j x s l e = let first = drop_more t i 0 l in cc

length_of : (t : List ℕ) (i j : ℕ) (s : List ℕ) → i < length t → j ≤ length t → drop i t ≡ s ++ drop j t → j ≡ i + length s
length_of t i j s l m e = omega (arith, ap length e, length-drop i t, length-drop j t, length-append s (drop j t))

comment_long : (s t after : List ℕ) → EndsComment s t after → 0 < length s
comment_long s t after (inl h) = omega (arith, ap length h.0)
comment_long s t after (inr h) = omega (arith, ap length h.0)

pub not_slash : (t : List ℕ) (i j : ℕ) (p : Piece) → i < length t → get_or t i 0 ≢ 47 → drop i t ≡ spelled p ++ drop j t → is_comment p ≡ false
not_slash t i j (string s) l n e = refl
not_slash t i j (comment s) l n e = absurd (n (first_of t i j 47 s l e))
not_slash t i j (other x) l n e = refl

pub is_long : (t : List ℕ) (i j : ℕ) (p : Piece) → i < length t → j ≤ length t → get_or t i 0 ≡ 47 → drop i t ≡ spelled p ++ drop j t → IsWhole p (drop j t) → not (j == i + 1) ≡ is_comment p
is_long t i j (string s) l m x e w = absurd (omega (arith, x, first_of t i j 34 s l e))
is_long t i j (comment s) l m x e w =
    let no = ne_eqb j (i + 1) (λ f. absurd (omega (arith, f, length_of t i j (47 ∷ s) l m e, comment_long s w.0 (drop j t) w.1))) in
    ap not no
is_long t i j (other y) l m x e w =
    let same : j ≡ i + 1 = length_of t i j (y ∷ []) l m e in
    rw same (ap not (eq-eqb (i + 1) (i + 1) refl))

pub break_byte : (t : List ℕ) (i j : ℕ) (p : Piece) → i < length t → drop i t ≡ spelled p ++ drop j t → is_line_break p ≡ is_break (get_or t i 0)
break_byte t i j (string s) l e = sym (ap is_break (first_of t i j 34 s l e))
break_byte t i j (comment s) l e = sym (ap is_break (first_of t i j 47 s l e))
break_byte t i j (other x) l e = sym (ap is_break (first_of t i j x [] l e))

pub white_byte : (t : List ℕ) (i j : ℕ) (p : Piece) → i < length t → drop i t ≡ spelled p ++ drop j t → is_white p ≡ is_space (get_or t i 0)
white_byte t i j (string s) l e = sym (ap is_space (first_of t i j 34 s l e))
white_byte t i j (comment s) l e = sym (ap is_space (first_of t i j 47 s l e))
white_byte t i j (other x) l e = sym (ap is_space (first_of t i j x [] l e))

-- ---- runs of pieces

pub one_after : (t u r : List ℕ) (ps qs : List Piece) → Pieces t ps u → Pieces u qs r → Pieces t (ps ++ qs) r
one_after t u r [] qs h k = subst (λ (s : List ℕ). Pieces s qs r) (sym h) k
one_after t u r (p ∷ ps) qs h k = (h.0, h.1, h.2, one_after h.0 u r ps qs h.3 k)

allowed-append : (allowed : Allowed) (ps qs : List Piece) → AreAllowed allowed ps → AreAllowed allowed qs → AreAllowed allowed (ps ++ qs)
allowed-append allowed [] qs h k = k
allowed-append allowed (p ∷ ps) qs h k = (h.0, allowed-append allowed ps qs h.1 k)

abbrev pub HasRun : Allowed → List ℕ → List ℕ → Type 0
HasRun allowed t rest = (ps : List Piece) × Pieces t ps rest × AreAllowed allowed ps

pub run_more : (allowed : Allowed) (t rest after : List ℕ) → HasRun allowed t rest → (b : BeginsWithPiece rest after) → is_allowed allowed b.0 ≡ true → HasRun allowed t after
run_more allowed t rest after h b a =
    (h.0 ++ b.0 ∷ [], pieces_more t h.0 rest b.0 after h.1 b.1 b.2, allowed-append allowed h.0 (b.0 ∷ []) h.2 (a, tt))

-- ---- the same pieces in two texts

pub same_spelled : (p q : Piece) (a b : List ℕ) → spelled p ≡ spelled q → IsWhole p a → IsWhole q b → p ≡ q
same_spelled (string s) (string t) a b e h k = cc
same_spelled (string s) (comment t) a b e h k = cc
same_spelled (string s) (other y) a b e h k = absurd (k.0 (let same : y ≡ 34 = cc in same))
same_spelled (comment s) (string t) a b e h k = cc
same_spelled (comment s) (comment t) a b e h k = cc
same_spelled (comment s) (other y) a b e h k = absurd (omega (arith, ap length e, comment_long s h.0 a h.1))
same_spelled (other x) (string t) a b e h k = absurd (h.0 (let same : x ≡ 34 = cc in same))
same_spelled (other x) (comment t) a b e h k = absurd (omega (arith, ap length e, comment_long t k.0 b k.1))
same_spelled (other x) (other y) a b e h k = cc

abbrev pub HaveRun : List ℕ → List ℕ → ℕ → Type 0
HaveRun t u i = (ps : List Piece) × Pieces t ps (drop i t) × Pieces u ps (drop i u)

-- what is between two offsets
between : (t : List ℕ) (i j : ℕ) (s : List ℕ) → i < length t → j ≤ length t → drop i t ≡ s ++ drop j t → take (j - i) (drop i t) ≡ s
between t i j s l m e = ap (λ r. take (j - i) r) e ∙ take_at s (drop j t) (j - i) (omega (arith, length_of t i j s l m e))

shorter : (t u : List ℕ) (n m : ℕ) → m ≤ n → take n t ≡ take n u → take m t ≡ take m u
shorter t u n m l e = sym (take-take m n t l) ∙ ap (λ x. take m x) e ∙ take-take m n u l

same_between : (t u : List ℕ) (i j n : ℕ) → i < j → j ≤ n → take n t ≡ take n u → take (j - i) (drop i t) ≡ take (j - i) (drop i u)
same_between t u i j n l m e =
    let sum : i + (j - i) ≡ j = omega arith in
    let at = λ (x : List ℕ). sym (drop-take i (j - i) x) ∙ ap (λ k. drop i (take k x)) sum in
    at t ∙ ap (λ x. drop i x) (shorter t u n j m e) ∙ sym (at u)

pub same_more : (t u : List ℕ) (i j n : ℕ) → i < j → j ≤ n → n ≤ length t → n ≤ length u → take n t ≡ take n u → HaveRun t u i → BeginsWithPiece (drop i t) (drop j t) → BeginsWithPiece (drop i u) (drop j u) → HaveRun t u j
same_more t u i j n l m w v e h p q =
    let spell : spelled p.0 ≡ spelled q.0 =
    sym (between t i j (spelled p.0) (omega arith) (omega arith) p.1) ∙ same_between t u i j n l m e ∙ between u i j (spelled q.0) (omega arith) (omega arith) q.1 in
    let same = same_spelled p.0 q.0 (drop j t) (drop j u) spell p.2 q.2 in (
      h.0 ++ p.0 ∷ [],
      pieces_more t h.0 (drop i t) p.0 (drop j t) h.1 p.1 p.2,
      pieces_more u h.0 (drop i u) p.0 (drop j u) h.2 (subst (λ (x : Piece). drop i u ≡ spelled x ++ drop j u) (sym same) q.1) (subst (λ (x : Piece). IsWhole x (drop j u)) (sym same) q.2),
    )

-- ---- the text of the pieces

pub text_of_pieces : (t : List ℕ) (ps : List Piece) (rest : List ℕ) → Pieces t ps rest → t ≡ spelling ps ++ rest
text_of_pieces t [] rest h = h
text_of_pieces t (p ∷ ps) rest h = h.1 ∙ ap (λ r. spelled p ++ r) (text_of_pieces h.0 ps rest h.3) ∙ sym (append_assoc (spelled p) (spelling ps) rest)

pub comments-append : (ps qs : List Piece) → comments_of (ps ++ qs) ≡ comments_of ps ++ comments_of qs
comments-append [] qs = refl
comments-append (string s ∷ ps) qs = comments-append ps qs
comments-append (comment s ∷ ps) qs = ap (λ r. spelled (comment s) ∷ r) (comments-append ps qs)
comments-append (other x ∷ ps) qs = comments-append ps qs

pub no_comments : (ps : List Piece) → AreAllowed NoComment ps → comments_of ps ≡ []
no_comments [] h = refl
no_comments (string s ∷ ps) h = no_comments ps h.1
no_comments (comment s ∷ ps) h = absurd (let wrong : false ≡ true = h.0 in cc)
no_comments (other x ∷ ps) h = no_comments ps h.1

-- ---- where a block comment ends

pub block_found : (t : List ℕ) (i : ℕ) (r : Option ℕ) → i + 1 < length t → get_or t i 0 ≡ 47 → get_or t (i + 1) 0 ≡ 42
    → MatchOption r (after_block (drop (i + 2) t) ≡ None) (λ end. (after_block (drop (i + 2) t) ≡ Some (drop end t)) × (i + 2 + 2 ≤ end) × (end ≤ length t))
    → IfSome r (λ end. BeginsWithPiece (drop i t) (drop end t))
block_found t i None l x y m = tt
block_found t i (Some end) l x y m = block_piece t i end l x y m.0

pub block_open : (t : List ℕ) (i : ℕ) (r : Option ℕ) → i + 1 < length t → get_or t i 0 ≡ 47 → get_or t (i + 1) 0 ≡ 42
    → MatchOption r (after_block (drop (i + 2) t) ≡ None) (λ end. (after_block (drop (i + 2) t) ≡ Some (drop end t)) × (i + 2 + 2 ≤ end) × (end ≤ length t))
    → IfNone r (BeginsOpenComment (drop i t))
block_open t i None l x y m = open_piece t i l x y m
block_open t i (Some end) l x y m = tt
