-- Words of private clauses: two values that differ at the location of some tokens.
use Rattle.std.specs.Prelude.{◌≡◌, ◌⊎◌, List, ◌++◌, Option, String, Some, None, codes, string_bytes}
use Rattle.std.specs.declared.alloc.Global.{Global}
use Rattle.json.specs.Lex.{tokens as lexed}
use Rattle.serde_json.specs.Data.{Data, array, Items}
use Rattle.serde_json.specs.Read.{read}
use Rattle.jsonptr_text_search.specs.Search.{Choice, items_count}
use Rattle.jsonptr_text_check.specs.Child.{IsValueText, value_part}
use Rattle.jsonptr_text_check.specs.Leading.{BeginsAt}
use Rattle.jsonptr_text_piece.specs.Spacing.{IsTrimmed, Splices}
use Rattle.jsonptr_text_check.specs.declared.change.Change.TheVariants.{Replace}
use Rattle.jsonptr_text_check.specs.Editing.{AddsChosenMember, InsertsItem}
use Rattle.jsonptr.specs.Text.{Text, dec}
use Rattle.jsonptr.specs.Node.{Path, Names}
use Rattle.jsonptr.specs.Content.{content_at}
use Rattle.jsonptr.specs.Json.{content, nodes}
use Rattle.jsonptr.specs.Put.{put}
use Rattle.jsonptr_text_step.specs.declared.replace.ValueChange.{ValueChange}
use Rattle.jsonptr_text_step.specs.Bytes.{IsScalar, ReplacesBytes, AddsPiece, AddsBytes, child_text}

-- `Reached R d d2 tokens`: the tokens name a path of `d`, and `d2` is `d` with another value there, which `R` relates to the old
-- one
pub record Reached (R : Data → Data → Type 0) (d d2 : Data) (tokens : List Text) : Type 0 where
  pub path : Path
  pub at : Data
  pub at2 : Data
  pub named : Names (nodes d) tokens path
  pub there : content_at path (content d) ≡ Some (content at)
  pub made : nodes d2 ≡ put (nodes d) path (nodes at2)
  pub named2 : Names (nodes d2) tokens path
  pub there2 : content_at path (content d2) ≡ Some (content at2)
  pub changes : R at at2

-- `ReachedInText old new tokens R`: the same of the documents that two texts read as
abbrev pub ReachedInText : Text → Text → List Text → (Data → Data → Type 0) → Type 0
ReachedInText old new tokens R = (d d2 : Data) × (read old ≡ Some d) × (read new ≡ Some d2) × Reached R d d2 tokens

-- `ReplacesCut middle piece d d2`: `d` is the value of the text `middle`, and `d2` that of the text `piece`
abbrev pub ReplacesCut : Text → Text → Data → Data → Type 0
ReplacesCut middle piece d d2 = (read middle ≡ Some d) × (read piece ≡ Some d2)

-- `IsValueEdit middle flat made`: the edit replaces the text `middle`, without white space around it, by the text `flat`, whose
-- tokens the piece has, without white space around them
pub record IsValueEdit (middle flat : Text) (made : ValueChange) : Type 0 where
  pub before : String Global
  pub after : String Global
  pub change : made.change ≡ Replace before after
  pub old : string_bytes before ≡ middle
  pub new : string_bytes after ≡ flat
  pub trimmed : IsTrimmed middle
  pub reads : (e : Data) × (read flat ≡ Some e) × IsValueText e (string_bytes made.piece)
  pub same : lexed (string_bytes made.piece) ≡ lexed flat

-- `SplicesAt cs old new middle piece`: `new` is `old` with `piece` instead of `middle`, and the selectors `cs` lead to each of
-- them, in its text
pub record SplicesAt (cs : List Choice) (old new middle piece : Text) : Type 0 where
  pub splices : Splices old new middle piece
  pub was_at : BeginsAt cs old middle (middle ++ splices.after)
  pub is_at : BeginsAt cs new piece (piece ++ splices.after)

-- `Becomes piece d d2`: `d2` is the value of the text `piece`
abbrev pub Becomes : Text → Data → Data → Type 0
Becomes piece d d2 = read piece ≡ Some d2

-- `ScalarBecomes piece d d2`: `d` is a scalar, and `d2` is the value of the text `piece`
abbrev pub ScalarBecomes : Text → Data → Data → Type 0
ScalarBecomes piece d d2 = IsScalar d × (read piece ≡ Some d2)

-- `MemberAdded x piece d d2`: `d2` is the object `d` with the value of the text `piece` under the key `x`, which `d` lacks
abbrev pub MemberAdded : Text → Text → Data → Data → Type 0
MemberAdded x piece d d2 = (e : Data) × (read piece ≡ Some e) × AddsChosenMember (x, None) e d d2

-- `ElementAppended x piece d d2`: `d2` is the array `d` with the value of the text `piece` after its last element, to which
-- the token `x` refers
pub record ElementAppended (x piece : Text) (d d2 : Data) : Type 0 where
  pub ds : Items
  pub ds2 : Items
  pub e : Data
  pub reads : read piece ≡ Some e
  pub old : d ≡ array ds
  pub new : d2 ≡ array ds2
  pub inserts : InsertsItem (items_count ds) e ds ds2
  pub refers : (x ≡ codes "-") ⊎ (x ≡ dec (items_count ds))

-- ---- which bytes change, by the text of the value that an edit brings. What is put into the text as the value has the tokens
-- of that text

-- `ReplacesScalarByText old new tokens flat`: the scalar that `tokens` identify is replaced by the value of the text `flat`
abbrev pub ReplacesScalarByText : Text → Text → List Text → Text → Type 0
ReplacesScalarByText old new tokens flat =
    (e : Data) × (read flat ≡ Some e) × (b : ReplacesBytes old new tokens e) × IsScalar b.value × (lexed b.piece ≡ lexed flat)

-- `AddsPieceByText old new tokens key flat`: one child is added, with the value of the text `flat`
abbrev pub AddsPieceByText : Text → Text → List Text → Option Text → Text → Type 0
AddsPieceByText old new tokens key flat =
    (e : Data) × (read flat ≡ Some e) × (b : AddsPiece old new tokens key e)
    × (lexed (value_part key e b.piece b.child) ≡ lexed flat)

-- `AddsByText old new front x flat`: the same of a child that `x` refers to
abbrev pub AddsByText : Text → Text → List Text → Text → Text → Type 0
AddsByText old new front x flat =
    (e : Data) × (read flat ≡ Some e) × (b : AddsBytes old new front x e) × (lexed (child_text old new front x e b) ≡ lexed flat)
