-- A member of a table that is renamed, in the text of the document.
use Rattle.std.specs.Prelude.{◌≡◌, ◌-◌, ◌||◌, ◌==◌, ℕ, zero, suc, Bool, false, List, [], ◌∷◌, ◌++◌, length, slice_index, Some, None, ⊤}
use Rattle.toml_parser.specs.Lexical.{first, quote, apostrophe, is_ws, is_bare}
use Rattle.toml_parser.specs.Strings.{key}
use Rattle.toml.specs.Data.{Data}
use Rattle.toml.specs.Parse.{parse_document}
use Rattle.jsonptr.specs.Text.{Text}
use Rattle.jsonptr.specs.TomlValue.{nodes, HasSortedKeys}
use Rattle.jsonptr_toml.specs.InToml.{ReadsAsToml, IsDeep, IsPrintTomlError, PrintsAs}
use Rattle.jsonptr_toml.specs.declared.error.PrintTomlError.TheVariants as printing
use Rattle.jsonptr_toml.specs.declared.error.EditTomlError.{EditTomlError}
use Rattle.jsonptr_toml.specs.declared.error.EditTomlError.TheVariants.{NotToml, DocumentTooDeep, Refused, TooDeep, NoText, Memory}
use Rattle.jsonptr_text_piece.specs.Spacing.{Splices}
use Rattle.jsonptr_text_step.specs.Renaming.{Renames, RefusesRename}
use Rattle.jsonptr_text_step.specs.declared.rename.RenameError.{RenameError}

-- `RenamesTo text ts k d2`: renaming the member at the tokens turns the document of `text` into `d2`. No other member of its
-- table has the key `k`
abbrev pub RenamesTo : Text → List Text → Text → Data → Type 0
RenamesTo text ts k d2 = (d : Data) × ReadsAsToml text d × Renames (nodes d) ts k (nodes d2)

-- `RenamesInOrder text ts k d2`: renaming the member at the tokens turns the document of `text` into `d2`, whose keys are sorted
abbrev pub RenamesInOrder : Text → List Text → Text → Data → Type 0
RenamesInOrder text ts k d2 = RenamesTo text ts k d2 × HasSortedKeys d2

-- `RenamesInToml old ts k new`: the texts read as documents, and renaming the member at the tokens turns the first into the
-- second
abbrev pub RenamesInToml : Text → List Text → Text → Text → Type 0
RenamesInToml old ts k new = (d2 : Data) × RenamesTo old ts k d2 × ReadsAsToml new d2

-- `RenamesAndPrintsToml text ts k new`: the same, and `new` is the second document printed anew
abbrev pub RenamesAndPrintsToml : Text → List Text → Text → Text → Type 0
RenamesAndPrintsToml text ts k new = (d2 : Data) × RenamesTo text ts k d2 × PrintsAs d2 new

-- `EndsInNoSpace t`: the last byte of the text `t` is not a space or a tab
abbrev pub EndsInNoSpace : Text → Type 0
EndsInNoSpace t = is_ws (slice_index t (length t - 1)) ≡ false

-- `IsKeyText k t`: the text `t` is one key, not dotted, whose value is `k`. No white space is after it
abbrev pub IsKeyText : Text → Text → Type 0
IsKeyText k t = (key t ≡ Some (([], k), [])) × EndsInNoSpace t

-- `is_key_byte b`: a bare key can have the byte `b`, or a quoted one begins or ends with it
abbrev pub is_key_byte : ℕ → Bool
is_key_byte b = is_bare b || (b == quote || b == apostrophe)

-- `IsBetweenKeys before after`: neither the last byte of the text `before` nor the first of `after` is one of a key. So between
-- them a key is whole
abbrev pub IsBetweenKeys : Text → Text → Type 0
IsBetweenKeys before after =
    (is_key_byte (slice_index before (length before - 1)) ≡ false) × (is_key_byte (first after) ≡ false)

-- `RenamesKey x k old new`: `new` is the text `old` with a whole text of one key replaced: one of `x` by one of `k`
pub record RenamesKey (x k old new : Text) : Type 0 where
  pub name : Text
  pub name2 : Text
  pub splices : Splices old new name name2
  pub named : IsKeyText x name
  pub named2 : IsKeyText k name2
  pub whole : IsBetweenKeys splices.before splices.after

-- `RenamesKeys n x k old new`: so many texts of the key `x` are replaced by texts of the key `k`, one after the other
abbrev pub RenamesKeys : ℕ → Text → Text → Text → Text → Type 0
RenamesKeys zero x k old new = new ≡ old
RenamesKeys (suc n) x k old new = (mid : Text) × RenamesKeys n x k old mid × RenamesKey x k mid new

-- `RenamesTomlBytes old ts k new`: texts of the last token as a key, any number of them, become texts of the key `k`, and
-- nothing else changes. If the two keys are equal, nothing changes. Where the texts are is not said: a word in a comment could
-- be one
abbrev pub RenamesTomlBytes : Text → List Text → Text → Text → Type 0
RenamesTomlBytes old ts k new =
    (front : List Text) × (x : Text) × (ts ≡ front ++ x ∷ []) × (k ≡ x → new ≡ old)
    × ((n : ℕ) × RenamesKeys n x k old new)

-- `IsRenameInTomlError text ts k e`: `e` is why the member at the tokens does not get the key `k`, unless an allocation failed
abbrev pub IsRenameInTomlError : Text → List Text → Text → EditTomlError RenameError → Type 0
IsRenameInTomlError text ts k NotToml = parse_document text ≡ None
IsRenameInTomlError text ts k DocumentTooDeep = IsDeep text
IsRenameInTomlError text ts k (Refused f) = (d : Data) × ReadsAsToml text d × RefusesRename (nodes d) ts k f
IsRenameInTomlError text ts k TooDeep = (d2 : Data) × RenamesInOrder text ts k d2 × IsPrintTomlError d2 printing.TooDeep
IsRenameInTomlError text ts k NoText = (d2 : Data) × RenamesInOrder text ts k d2 × IsPrintTomlError d2 printing.NoText
IsRenameInTomlError text ts k (Memory f) = ⊤
