-- Runs of pieces, and what is in them.
use Rattle.std.specs.Prelude.{◌≡◌, ℕ, List, [], ◌∷◌, ◌++◌, Bool, true, false, not, ⊤}
use Rattle.json.specs.Word.{is_space}
use Rattle.jsonptr_comments.specs.Comments.{Piece, string, comment, other, spelled, is_break, IsWhole, IsInBlock}
use Rattle.jsonptr_comments.specs.declared.piece.Allowed.{Allowed}
use Rattle.jsonptr_comments.specs.declared.piece.Allowed.TheVariants.{Any, NoComment, NoBreak, Blank}

-- `spelling ps`: the text of the pieces
abbrev pub spelling : List Piece → List ℕ
spelling [] = []
spelling (p ∷ ps) = spelled p ++ spelling ps

-- `comments_of ps`: the comments among the pieces, in their order
abbrev pub comments_of : List Piece → List (List ℕ)
comments_of [] = []
comments_of (string s ∷ ps) = comments_of ps
comments_of (comment s ∷ ps) = spelled (comment s) ∷ comments_of ps
comments_of (other x ∷ ps) = comments_of ps

-- `BeginsWithPiece t after`: the text `t` is one whole piece, and then `after`
abbrev pub BeginsWithPiece : List ℕ → List ℕ → Type 0
BeginsWithPiece t after = (p : Piece) × (t ≡ spelled p ++ after) × IsWhole p after

-- `BeginsOpenComment t`: the text `t` begins with `/*`, with no `*/` after it
abbrev pub BeginsOpenComment : List ℕ → Type 0
BeginsOpenComment t = (inside : List ℕ) × (t ≡ 47 ∷ 42 ∷ inside) × IsInBlock inside

abbrev pub is_comment : Piece → Bool
is_comment (string s) = false
is_comment (comment s) = true
is_comment (other x) = false

-- whether the piece is a line break outside strings and comments
abbrev pub is_line_break : Piece → Bool
is_line_break (string s) = false
is_line_break (comment s) = false
is_line_break (other x) = is_break x

-- whether the piece is white space outside strings and comments
abbrev pub is_white : Piece → Bool
is_white (string s) = false
is_white (comment s) = false
is_white (other x) = is_space x

-- whether the piece is one of those that are allowed
abbrev pub is_allowed : Allowed → Piece → Bool
is_allowed Any p = true
is_allowed NoComment p = not (is_comment p)
is_allowed NoBreak p = not (is_line_break p)
is_allowed Blank p = is_white p

-- `AreAllowed allowed ps`: each of the pieces is one of those that are allowed
abbrev pub AreAllowed : Allowed → List Piece → Type 0
AreAllowed allowed [] = ⊤
AreAllowed allowed (p ∷ ps) = (is_allowed allowed p ≡ true) × AreAllowed allowed ps
