-- One piece more.
use Rattle.std.proofs.Common.{◌≡◌, ℕ, ◌+◌, List, [], ◌∷◌, ◌++◌, Bool, cond, ◌||◌, ◌==◌, length, refl, sym, ap, ap₂, ◌∙◌, append_assoc, append-nil, length-append, zero-add, arith}
use Rattle.std.proofs.lemmas.List.{length-map}
use Rattle.json.specs.Word.{is_space}
use Rattle.jsonptr_comments.specs.Comments.{Piece, string, comment, other, spelled, IsWhole, Pieces, value_after, closes, without, all_without, blank}
use Rattle.jsonptr_comments.specs.PrivateScanning.{value_at}

pub pieces_more : (text : List ℕ) (ps : List Piece) (rest : List ℕ) (p : Piece) (after : List ℕ) → Pieces text ps rest → rest ≡ spelled p ++ after → IsWhole p after → Pieces text (ps ++ p ∷ []) after
pieces_more text [] rest p after h e s = (after, h ∙ e, s, refl)
pieces_more text (q ∷ ps) rest p after h e s = (h.0, h.1, h.2, pieces_more h.0 ps rest p after h.3 e s)

pub closes-append : (ps qs : List Piece) (c : Bool) → closes (ps ++ qs) c ≡ closes ps (closes qs c)
closes-append [] qs c = refl
closes-append (string s ∷ ps) qs c = refl
closes-append (comment s ∷ ps) qs c = closes-append ps qs c
closes-append (other x ∷ ps) qs c = ap (λ d. cond (is_space x) d ((x == 93) || (x == 125))) (closes-append ps qs c)

pub value_at-more : (b : Bool) (ps : List Piece) (p : Piece) → value_at b (ps ++ p ∷ []) ≡ value_after (value_at b ps) p
value_at-more b [] p = refl
value_at-more b (q ∷ ps) p = value_at-more (value_after b q) ps p

pub all_without-more : (b : Bool) (ps : List Piece) (p : Piece) (c : Bool) → all_without b (ps ++ p ∷ []) c ≡ all_without b ps (closes (p ∷ []) c) ++ without (value_at b ps) p c
all_without-more b [] p c = append-nil (without b p c)
all_without-more b (q ∷ ps) p c =
    ap₂ (λ d t. without b q d ++ t) (closes-append ps (p ∷ []) c) (all_without-more (value_after b q) ps p c)
    ∙ sym (append_assoc (without b q (closes ps (closes (p ∷ []) c))) (all_without (value_after b q) ps (closes (p ∷ []) c)) (without (value_at (value_after b q) ps) p c))

-- ---- lengths

pub without_length : (b : Bool) (p : Piece) (c : Bool) → length (without b p c) ≡ length (spelled p)
without_length b (string s) c = refl
without_length b (comment s) c = length-map (spelled (comment s)) blank
without_length b (other x) c = refl

pub same_length : (b c : Bool) (text : List ℕ) (ps : List Piece) (rest : List ℕ) → Pieces text ps rest → length (all_without b ps c) + length rest ≡ length text
same_length b c text [] rest h = zero-add (length rest) ∙ sym (ap length h)
same_length b c text (p ∷ ps) rest h =
    let first = without_length b p (closes ps c) in
    let more = same_length (value_after b p) c h.0 ps rest h.3 in
    let whole = ap length h.1 ∙ length-append (spelled p) h.0 in
    let made = length-append (without b p (closes ps c)) (all_without (value_after b p) ps c) in
    omega (arith, first, more, whole, made)

pub all_without-append : (b : Bool) (ps qs : List Piece) (c : Bool) → all_without b (ps ++ qs) c ≡ all_without b ps (closes qs c) ++ all_without (value_at b ps) qs c
all_without-append b [] qs c = refl
all_without-append b (q ∷ ps) qs c =
    ap₂ (λ d t. without b q d ++ t) (closes-append ps qs c) (all_without-append (value_after b q) ps qs c)
    ∙ sym (append_assoc (without b q (closes ps (closes qs c))) (all_without (value_after b q) ps (closes qs c)) (all_without (value_at (value_after b q) ps) qs c))
