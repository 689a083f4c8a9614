-- Words of private clauses: what follows a piece, and a text of which the pieces are known up to an offset.
use Rattle.std.specs.Prelude.{◌≡◌, ℕ, List, [], ◌∷◌, ◌++◌, length, drop, set, slice_index, Bool, true, false, cond, ◌&&◌, ◌==◌, Option, Some, None, IsUtf8}
use Rattle.jsonptr_comments.specs.Comments.{Piece, Pieces, is_break, value_after, all_without}

-- what follows a string, after its first quote
abbrev mutual
  pub after_string : List ℕ → List ℕ
  after_string [] = []
  after_string (x ∷ xs) = cond (x == 34) xs (cond (x == 92) (after_escaped xs) (after_string xs))

  pub after_escaped : List ℕ → List ℕ
  after_escaped [] = []
  after_escaped (x ∷ xs) = after_string xs

-- what follows a line comment
abbrev pub after_line : List ℕ → List ℕ
after_line [] = []
after_line (x ∷ xs) = cond (is_break x) (x ∷ xs) (after_line xs)

-- what follows the first `*/`
abbrev pub after_block : List ℕ → Option (List ℕ)
after_block [] = None
after_block (x ∷ xs) = cond ((x == 42) && (slice_index xs 0 == 47)) (Some (drop 1 xs)) (after_block xs)

-- the value of `value_after` after all pieces
abbrev pub value_at : Bool → List Piece → Bool
value_at b [] = b
value_at b (p ∷ ps) = value_at (value_after b p) ps

-- `Pends comma before blanked`: the two texts differ in the comma at this offset, which is blank in the second one
abbrev pub Pends : Option ℕ → List ℕ → List ℕ → Type 0
Pends None before blanked = blanked ≡ before
Pends (Some k) before blanked = (a b : List ℕ) × (length a ≡ k) × (before ≡ a ++ 44 ∷ b) × (blanked ≡ a ++ 32 ∷ b)

-- `Done all text i value comma`: up to the offset `i` the text is what is left of `all`
pub record Done (all text : List ℕ) (i : ℕ) (value : Bool) (comma : Option ℕ) : Type 0 where
  pub ps : List Piece
  pub pieces : Pieces all ps (drop i text)
  pub left : text ≡ all_without false ps false ++ drop i text
  pub at : length (all_without false ps false) ≡ i
  pub pends : Pends comma (all_without false ps false) (all_without false ps true)
  pub value_is : value ≡ value_at false ps
  pub utf8 : IsUtf8 text

-- the text after a closing bracket: the comma before it is blank
abbrev pub blanked_comma : Option ℕ → List ℕ → List ℕ
blanked_comma None text = text
blanked_comma (Some k) text = set text k 32
