-- A text has at most one text without comments.
use Rattle.std.proofs.Common.{◌≡◌, List, ℕ, [], false, ◌⊎◌, refl, inl, inr, sym, ap, subst, ◌∙◌}
use Rattle.jsonptr_comments.specs.Comments.{Piece, Pieces, all_without, IsWithoutComments, IsUnterminated, IsBare}
use Rattle.jsonptr_comments.proofs.FirstLemmas.{unique, pieces_or_open, not_both}

pub one_text : (text new other : List ℕ) → IsWithoutComments text new → IsWithoutComments text other → new ≡ other
one_text text new other h k =
    h.2 ∙ ap (λ ps. all_without false ps false) (unique text h.0 k.0 [] [] h.1 k.1 (inl refl) (inl refl)).0 ∙ sym k.2

pub bare_of : (text bare : List ℕ) → IsWithoutComments text bare → IsBare text bare
bare_of text bare h = (λ other k. one_text text other bare k h, λ n unclosed. not_both text h.0 n h.1 unclosed)

pub without_of : (text bare : List ℕ) → IsBare text bare → IsWithoutComments text bare
without_of text bare h = at (pieces_or_open text)
  where
    at : ((ps : List Piece) × Pieces text ps []) ⊎ ((n : ℕ) × IsUnterminated text n) → IsWithoutComments text bare
    at (inl whole) = subst (λ (t : List ℕ). IsWithoutComments text t) (h.0 (all_without false whole.0 false) (whole.0, whole.1, refl)) (whole.0, whole.1, refl)
    at (inr unclosed) = absurd (h.1 unclosed.0 unclosed.1)
