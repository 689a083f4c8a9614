-- Words of private clauses: what is checked of a text after an edit, by offsets.
use Rattle.std.specs.Prelude.{◌≡◌, ◌⊎◌, ℕ, ◌+◌, ◌≤◌, List, [], ◌++◌, length, drop, ◌≢◌, slice_index, Bool, true, false, Option}
use Rattle.json.specs.Word.{is_space}
use Rattle.serde_json.specs.Data.{Data}
use Rattle.jsonptr.specs.Text.{Text}
use Rattle.jsonptr_comments.specs.Comments.{Piece, Pieces}
use Rattle.jsonptr_comments.specs.Parts.{spelling, AreAllowed}
use Rattle.jsonptr_comments.specs.declared.piece.Allowed.{Allowed}
use Rattle.jsonptr_comments.specs.declared.piece.Allowed.TheVariants.{Any, NoComment, NoBreak}
use Rattle.jsonptr_text_check.specs.Child.{IsChildText, HaveOneComma, child_value}
use Rattle.jsonptr_text_step.specs.Placing.{IsAt}
use Rattle.jsonptr_comments_step.specs.Edits.{IsCommaOrNone, IsScalarText, IsChange, IsNameOf}

-- `IsSpan text from to`: the offsets are in order, and in the text
pub record IsSpan (text : Text) (from to : ℕ) : Type 0 where
  pub order : from ≤ to
  pub within : to ≤ length text

-- `AreFrom text from ps to`: between the offsets the text is the pieces `ps`
abbrev pub AreFrom : Text → ℕ → List Piece → ℕ → Type 0
AreFrom text from ps to = Pieces (drop from text) ps (drop to text)

-- `IsRun allowed text from to`: between the offsets the text is pieces that are allowed
pub record IsRun (allowed : Allowed) (text : Text) (from to : ℕ) : Type 0 where
  pub ps : List Piece
  pub pieces : AreFrom text from ps to
  pub are : AreAllowed allowed ps
  pub span : IsSpan text from to

-- `IsOneRun text from to other from2 to2`: between the offsets both texts are the same pieces
pub record IsOneRun (text : Text) (from to : ℕ) (other : Text) (from2 to2 : ℕ) : Type 0 where
  pub ps : List Piece
  pub pieces : AreFrom text from ps to
  pub others : AreFrom other from2 ps to2
  pub span : IsSpan text from to

-- `IsComma text from to`: between the offsets is a comma, or nothing
pub record IsComma (text : Text) (from to : ℕ) : Type 0 where
  pub ps : List Piece
  pub pieces : AreFrom text from ps to
  pub is : IsCommaOrNone ps

-- `IsFramed text from to made from2 to2`: apart from what is between the offsets, and from a comma, both texts are the same
-- pieces
pub record IsFramed (text : Text) (from to : ℕ) (made : Text) (from2 to2 : ℕ) : Type 0 where
  pub head : List Piece
  pub comma : List Piece
  pub added : List Piece
  pub gap : List Piece
  pub tail : List Piece
  pub text_front : Pieces text (head ++ (comma ++ gap)) (drop from text)
  pub made_front : Pieces made (head ++ (added ++ gap)) (drop from2 made)
  pub text_back : Pieces (drop to text) tail []
  pub made_back : Pieces (drop to2 made) tail []
  pub taken : IsCommaOrNone comma
  pub put : IsCommaOrNone added
  pub within : from ≤ length text

-- `IsChanged bare tokens text from to made from2 to2`: what is between the offsets of the text becomes what is between those of
-- the text `made`, by the edit at `tokens`
pub record IsChanged (bare : Text) (tokens : List Text) (text : Text) (from to : ℕ) (made : Text) (from2 to2 : ℕ) : Type 0 where
  pub inner : List Piece
  pub new : List Piece
  pub was : AreFrom text from inner to
  pub is : AreFrom made from2 new to2
  pub change : (front : List Piece) → length (spelling front) ≡ from → IsChange bare tokens front inner new

-- `IsValueAt bare way is_end from to`: `way` leads to the value whose text is between the offsets, and which is a scalar unless
-- `is_end`
pub record IsValueAt (bare : Text) (way : List Text) (is_end : Bool) (from to : ℕ) : Type 0 where
  pub before : Text
  pub value : Text
  pub after : Text
  pub bare_is : bare ≡ before ++ (value ++ after)
  pub starts : length before ≡ from
  pub spans : from + length value ≡ to
  pub is_at : IsAt bare way value after
  pub ends : (is_end ≡ true) ⊎ IsScalarText value

-- `IsChildCut bare from start end to before lead child trail after`: the text is cut at the offsets
pub record IsChildCut (bare : Text) (from start end to : ℕ) (before lead child trail after : Text) : Type 0 where
  pub bare_is : bare ≡ before ++ ((lead ++ (child ++ trail)) ++ after)
  pub starts : length before ≡ from
  pub leads : from + length lead ≡ start
  pub spans : start + length child ≡ end
  pub trails : end + length trail ≡ to

-- `IsExactChild t value`: `t` is the text of a child, and `value`, with which it ends, is the text of its value
pub record IsExactChild (t value : Text) : Type 0 where
  pub key : Option Text
  pub e : Data
  pub front : Text
  pub is : t ≡ front ++ value
  pub whole : IsChildText key e t
  pub value_is : child_value key e t whole ≡ value

-- `BeginsChild t`: the text `t` begins with neither white space nor a comma
abbrev pub BeginsChild : Text → Type 0
BeginsChild t = (is_space (slice_index t 0) ≡ false) × (slice_index t 0 ≢ 44)

-- `IsChildAt bare tokens from start end to`: between the offsets `start` and `end` is the text of a child with the value to which
-- `tokens` lead, and between `from` and `to` at most one comma beside it
pub record IsChildAt (bare : Text) (tokens : List Text) (from start end to : ℕ) : Type 0 where
  pub before : Text
  pub lead : Text
  pub child : Text
  pub trail : Text
  pub after : Text
  pub cut : IsChildCut bare from start end to before lead child trail after
  pub beside : HaveOneComma lead trail
  pub value : Text
  pub exact : IsExactChild child value
  pub is_at : IsAt bare tokens value (trail ++ after)

-- `AreRunsOfChild text from start end kept_from kept_to to made from2 to2`: between the offsets of the text are, one after another,
-- pieces without a comment; the child; pieces without a line break; those between the offsets of `made`; and pieces without a
-- comment
pub record AreRunsOfChild (text : Text) (from start end kept_from kept_to to : ℕ) (made : Text) (from2 to2 : ℕ) : Type 0 where
  pub lead : IsRun NoComment text from start
  pub child : IsRun Any text start end
  pub beside : IsRun NoBreak text end kept_from
  pub kept : IsOneRun text kept_from kept_to made from2 to2
  pub rest : IsRun NoComment text kept_to to

-- `AreRunsOfName text from to made from2 to2`: between the offsets both texts are pieces without a comment. Before and after these
-- both are the same pieces
pub record AreRunsOfName (text : Text) (from to : ℕ) (made : Text) (from2 to2 : ℕ) : Type 0 where
  pub head : IsOneRun text 0 from made 0 from2
  pub was : IsRun NoComment text from to
  pub is : IsRun NoComment made from2 to2
  pub tail : IsOneRun text to (length text) made to2 (length made)

-- `IsNameCut bare from to start before name colon after`: the text is cut at the offsets
pub record IsNameCut (bare : Text) (from to start : ℕ) (before name colon after : Text) : Type 0 where
  pub bare_is : bare ≡ before ++ (name ++ (colon ++ after))
  pub starts : length before ≡ from
  pub spans : from + length name ≡ to
  pub ends : to + length colon ≡ start

-- `IsNameAt bare tokens from to`: between the offsets is the name of the member at `tokens`
pub record IsNameAt (bare : Text) (tokens : List Text) (from to : ℕ) : Type 0 where
  pub before : Text
  pub name : Text
  pub after : Text
  pub bare_is : bare ≡ before ++ (name ++ after)
  pub starts : length before ≡ from
  pub spans : from + length name ≡ to
  pub is_name : IsNameOf bare tokens name after
