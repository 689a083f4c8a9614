-- Which comments an edit keeps.
use Rattle.std.specs.Prelude.{◌≡◌, ◌⊎◌, ℕ, List, [], ◌∷◌, ◌++◌}
use mathlib.Core.Logic.{inl, inr}
use Rattle.jsonptr.specs.Text.{Text}
use Rattle.jsonptr_comments.specs.Comments.{Piece}
use Rattle.jsonptr_comments.specs.Parts.{comments_of}
use Rattle.jsonptr_comments_step.specs.Edits.{IsChange, IsOneEdit}

-- `pieces_lost inner change`: the pieces that take their comments with them: none where white space is replaced; the value that is
-- replaced; the child that is removed, and what is beside it on its line
abbrev pub pieces_lost : {bare : Text} {tokens : List Text} {front : List Piece} (inner : List Piece) {new : List Piece} → IsChange bare tokens front inner new → List Piece
pieces_lost inner (inl addition) = []
pieces_lost inner (inr (inl replacement)) = inner
pieces_lost inner (inr (inr removal)) = removal.child ++ removal.beside

-- `lost e`: the comments that the edit `e` loses
abbrev pub lost : {text : Text} {tokens : List Text} {made : Text} → IsOneEdit text tokens made → List (List ℕ)
lost e = comments_of (pieces_lost e.inner e.what)

-- `kept_before e`: the comments before those. All of them stay
abbrev pub kept_before : {text : Text} {tokens : List Text} {made : Text} → IsOneEdit text tokens made → List (List ℕ)
kept_before e = comments_of (e.head ++ e.gap)

-- `kept_after e`: the comments after those. All of them stay
abbrev pub kept_after : {text : Text} {tokens : List Text} {made : Text} → IsOneEdit text tokens made → List (List ℕ)
kept_after e = comments_of (e.new ++ e.tail)

-- `LeavesOut xs ys`: the list `ys` is `xs` with some elements left out. The others keep their order
abbrev pub LeavesOut : List (List ℕ) → List (List ℕ) → Type 0
LeavesOut [] ys = ys ≡ []
LeavesOut (x ∷ xs) ys = LeavesOut xs ys ⊎ ((zs : List (List ℕ)) × (ys ≡ x ∷ zs) × LeavesOut xs zs)
