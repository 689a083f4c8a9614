-- A text stays if and only if there is nothing to blank in it.
use Rattle.std.proofs.Common.{◌≡◌, ℕ, List, [], ◌∷◌, ◌++◌, Bool, true, false, cond, ◌&&◌, ◌==◌, length, take, slice_index, map, refl, sym, ap, ap₂, ◌∙◌, arith, take_at, eqb-true}
use Rattle.std.proofs.lemmas.Bool.{and_parts}
use Rattle.std.proofs.lemmas.List.{append_cancel_left}
use Rattle.jsonptr_comments.specs.Comments.{Piece, string, comment, other, Pieces, value_after, closes, blank, all_without, NothingToBlank}

pub kept : (b : Bool) (ps : List Piece) (text : List ℕ) → Pieces text ps [] → NothingToBlank b ps → all_without b ps false ≡ text
kept b [] text h k = sym h
kept b (string s ∷ ps) text h k = ap (λ t. (34 ∷ s) ++ t) (kept true ps h.0 h.3 k) ∙ sym h.1
kept b (comment s ∷ ps) text h k = absurd k
kept b (other x ∷ ps) text h k =
    ap₂ (λ c t. cond c 32 x ∷ t) k.0 (kept (value_after b (other x)) ps h.0 h.3 k.1) ∙ sym h.1

-- two texts whose fronts are equally long are equal in both parts
parts : (a b x y : List ℕ) → length a ≡ length b → a ++ x ≡ b ++ y → (a ≡ b) × (x ≡ y)
parts a b x y l e =
    let front : a ≡ b = sym (take_at a x (length b) l) ∙ ap (λ t. take (length b) t) e ∙ take_at b y (length b) refl in
    (front, append_cancel_left b x y (ap (λ t. t ++ x) (sym front) ∙ e))

stays : (c : Bool) (x : ℕ) → (c ≡ true → x ≡ 44) → cond c 32 x ∷ [] ≡ x ∷ [] → c ≡ false
stays true x h e =
    let space : 32 ≡ x = cc in
    absurd (omega (arith, h refl, space))
stays false x h e = refl

pub nothing : (b : Bool) (ps : List Piece) (text : List ℕ) → Pieces text ps [] → all_without b ps false ≡ text → NothingToBlank b ps
nothing b [] text h e = tt
nothing b (string s ∷ ps) text h e = nothing true ps h.0 h.3 (parts (34 ∷ s) (34 ∷ s) (all_without true ps false) h.0 refl (e ∙ h.1)).1
nothing b (comment s ∷ ps) text h e =
    let same : 32 ∷ (map blank s ++ all_without b ps false) ≡ 47 ∷ (s ++ h.0) = e ∙ h.1 in
    absurd (omega (arith, ap (λ t. slice_index t 0) same))
nothing b (other x ∷ ps) text h e =
    let c = (x == 44) && b && closes ps false in
    let both = parts (cond c 32 x ∷ []) (x ∷ []) (all_without (value_after b (other x)) ps false) h.0 refl (e ∙ h.1) in (
      stays c x (λ t. eqb-true x 44 (and_parts (x == 44) b (and_parts ((x == 44) && b) (closes ps false) t).0).0) both.0,
      nothing (value_after b (other x)) ps h.0 h.3 both.1,
    )
