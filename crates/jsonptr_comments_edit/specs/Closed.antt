-- A text whose comments are closed.
use Rattle.std.specs.Prelude.{ℕ, List}
use Rattle.jsonptr_comments.specs.Comments.{IsUnterminated}

-- `IsClosed text`: each block comment of the text is closed
abbrev pub IsClosed : List ℕ → Type 0
IsClosed text = (n : ℕ) → IsUnterminated text n → ⊥
