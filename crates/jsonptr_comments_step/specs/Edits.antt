-- A text with comments before an edit and after it. Both are sequences of pieces: strings, comments, and other bytes.
use Rattle.std.specs.Prelude.{◌≡◌, ◌≢◌, ◌⊎◌, List, [], ◌∷◌, ◌++◌, length, slice_index, Option}
use Rattle.json.specs.Lex.{tokens}
use Rattle.serde_json.specs.Data.{Data, string}
use Rattle.jsonptr.specs.Text.{Text}
use Rattle.jsonptr_comments.specs.Comments.{Piece, other, Pieces, IsWithoutComments}
use Rattle.jsonptr_comments.specs.Parts.{spelling, comments_of, AreAllowed}
use Rattle.jsonptr_comments.specs.declared.piece.Allowed.TheVariants.{NoBreak, Blank}
use Rattle.jsonptr_text_check.specs.Child.{IsOneChild, IsValueText, value_part}
use Rattle.jsonptr_text_piece.specs.Spacing.{IsSpaced}
use Rattle.jsonptr_text_step.specs.Placing.{IsAt}

-- `IsLaidOut new made`: without its comments, the text `made` has the tokens of the text `new`, one for one
abbrev pub IsLaidOut : Text → Text → Type 0
IsLaidOut new made = (json : Text) × IsWithoutComments made json × (tokens json ≡ tokens new)

-- `IsCommaOrNone ps`: the pieces `ps` are a comma, or there are none
abbrev pub IsCommaOrNone : List Piece → Type 0
IsCommaOrNone ps = (ps ≡ []) ⊎ (ps ≡ other 44 ∷ [])

-- `HasNoComment ps`: none of the pieces `ps` is a comment
abbrev pub HasNoComment : List Piece → Type 0
HasNoComment ps = comments_of ps ≡ []

-- `IsUnder bare front ps part`: in the text without comments, `bare`, the text `part` is at the offsets of the pieces `ps`,
-- which come after the pieces `front`
pub record IsUnder (bare : Text) (front ps : List Piece) (part : Text) : Type 0 where
  pub before : Text
  pub after : Text
  pub bare_is : bare ≡ before ++ (part ++ after)
  pub starts : length before ≡ length (spelling front)
  pub spans : length part ≡ length (spelling ps)

-- `IsAddition inner new`: the pieces `inner` are white space, and the pieces `new`, which replace them, have no comment
pub record IsAddition (inner new : List Piece) : Type 0 where
  pub blank : AreAllowed Blank inner
  pub fresh : HasNoComment new

-- `IsScalarText t`: the text `t` of a value begins with neither `[` nor `{`
abbrev pub IsScalarText : Text → Type 0
IsScalarText t = (slice_index t 0 ≢ 91) × (slice_index t 0 ≢ 123)

-- `IsReplacement bare tokens front inner new`: the pieces `inner`, after `front`, are the own text of the value to which
-- `tokens` lead; or to which they lead no further, since it is a scalar. The pieces `new`, which replace them, have no comment
pub record IsReplacement (bare : Text) (tokens : List Text) (front inner new : List Piece) : Type 0 where
  pub way : List Text
  pub more : List Text
  pub tokens_are : tokens ≡ way ++ more
  pub value : Text
  pub under : IsUnder bare front inner value
  pub is_at : IsAt bare way value under.after
  pub ends : (more ≡ []) ⊎ IsScalarText value
  pub fresh : HasNoComment new

-- `IsRemoval bare tokens front inner new`: the pieces `inner`, after `front`, are one child with the value to which `tokens`
-- lead, and what is beside it: at most one comma, white space and comments. The comments in the child go, and those in
-- `beside`, which follow it with no line break before or between them. All others are in `new`, which stays
pub record IsRemoval (bare : Text) (tokens : List Text) (front inner new : List Piece) : Type 0 where
  pub lead : List Piece
  pub child : List Piece
  pub beside : List Piece
  pub rest : List Piece
  pub inner_is : inner ≡ lead ++ (child ++ (beside ++ (new ++ rest)))
  pub nothing_before : HasNoComment lead
  pub on_its_line : AreAllowed NoBreak beside
  pub nothing_after : HasNoComment rest
  pub key : Option Text
  pub value : Data
  pub text : Text
  pub under : IsUnder bare front inner text
  pub one : IsOneChild key value text
  pub starts : length one.lead ≡ length (spelling lead)
  pub spans : length one.child ≡ length (spelling child)
  pub is_at : IsAt bare tokens (value_part key value text one) (one.trail ++ under.after)

-- `IsChange bare tokens front inner new`: what an edit at `tokens` does, as the pieces `new` replace the pieces `inner`, which
-- come after `front`: it adds to white space, it replaces a value, or it removes a child
abbrev pub IsChange : Text → List Text → List Piece → List Piece → List Piece → Type 0
IsChange bare tokens front inner new =
    IsAddition inner new ⊎ (IsReplacement bare tokens front inner new ⊎ IsRemoval bare tokens front inner new)

-- `IsOneEdit text tokens made`: the text `made` is `text` with the pieces `inner` replaced by the pieces `new`, and with at most
-- one comma put in or taken out before them. `bare` is the text without comments
pub record IsOneEdit (text : Text) (tokens : List Text) (made : Text) : Type 0 where
  pub head : List Piece
  pub comma : List Piece
  pub added : List Piece
  pub gap : List Piece
  pub inner : List Piece
  pub new : List Piece
  pub tail : List Piece
  pub text_is : Pieces text (head ++ (comma ++ (gap ++ (inner ++ tail)))) []
  pub made_is : Pieces made (head ++ (added ++ (gap ++ (new ++ tail)))) []
  pub taken : IsCommaOrNone comma
  pub put : IsCommaOrNone added
  pub bare : Text
  pub without : IsWithoutComments text bare
  pub what : IsChange bare tokens (head ++ (comma ++ gap)) inner new

-- ---- renaming

-- `IsNameOf bare tokens name after`: in the text without comments, `bare`, the text `name` is one of the last of `tokens`, without
-- white space around it. What follows it, `after`, is a colon and the own text of the value to which `tokens` lead
pub record IsNameOf (bare : Text) (tokens : List Text) (name after : Text) : Type 0 where
  pub front : List Text
  pub x : Text
  pub tokens_are : tokens ≡ front ++ x ∷ []
  pub named : IsValueText (string x) name
  pub colon : Text
  pub value : Text
  pub rest : Text
  pub after_is : after ≡ colon ++ (value ++ rest)
  pub spaced : IsSpaced 58 colon
  pub is_at : IsAt bare tokens value rest

-- `IsRenaming text tokens made`: the text `made` is `text` with the pieces `inner`, the name of the member at `tokens`, replaced by
-- the pieces `new`. None of these is a comment, so all comments stay. `bare` is the text without comments
pub record IsRenaming (text : Text) (tokens : List Text) (made : Text) : Type 0 where
  pub head : List Piece
  pub inner : List Piece
  pub new : List Piece
  pub tail : List Piece
  pub text_is : Pieces text (head ++ (inner ++ tail)) []
  pub made_is : Pieces made (head ++ (new ++ tail)) []
  pub nothing_lost : HasNoComment inner
  pub fresh : HasNoComment new
  pub bare : Text
  pub without : IsWithoutComments text bare
  pub name : Text
  pub under : IsUnder bare head inner name
  pub is_name : IsNameOf bare tokens name under.after
