-- A member of an object that is renamed, in the text of the document.
use Rattle.std.specs.Prelude.{◌≡◌, ◌⊎◌, List, [], ◌∷◌, ◌++◌, Some, None, IsSome, ⊤}
use Rattle.serde_json.specs.Data.{Data, string}
use Rattle.serde_json.specs.Read.{read}
use Rattle.jsonptr.specs.Text.{Text}
use Rattle.jsonptr.specs.Node.{key, Path, an_object, NodeMap, Names}
use Rattle.jsonptr.specs.Json.{nodes}
use Rattle.jsonptr_text_resolve.specs.InText.{FindsInText}
use Rattle.jsonptr_patch.specs.Operating.{Moves}
use Rattle.jsonptr_text_piece.specs.Spacing.{IsSpaced, Splices}
use Rattle.jsonptr_text_check.specs.Child.{IsValueText}
use Rattle.jsonptr_text_step.specs.Placing.{IsAt}
use Rattle.jsonptr_text_step.specs.declared.stepped.StepError.{StepError}
use Rattle.jsonptr_text_step.specs.declared.stepped.StepError.TheVariants.{NotJson, Refused, TooDeep, Memory}
use Rattle.jsonptr_text_step.specs.declared.rename.RenameError.{RenameError}
use Rattle.jsonptr_text_step.specs.declared.rename.RenameError.TheVariants.{NotThere, NotAMember, KeyTaken}

-- `IsMember n tokens`: in the map `n`, `tokens` identify a member of an object: `front` names the path of the object, and `x` is
-- the key of the member
pub record IsMember (n : NodeMap) (tokens : List Text) : Type 0 where
  pub front : List Text
  pub x : Text
  pub path : Path
  pub split : tokens ≡ front ++ x ∷ []
  pub named : Names n front path
  pub object : n path ≡ Some an_object
  pub there : IsSome (n (path ++ key x ∷ []))

-- `Renames n tokens k m`: in `n`, `tokens` identify a member of an object, and no other member has the key `k`. `m` is `n` with
-- the member moved to that key (RFC 6902, section 4.4)
pub record Renames (n : NodeMap) (tokens : List Text) (k : Text) (m : NodeMap) : Type 0 where
  pub member : IsMember n tokens
  pub free : (k ≡ member.x → ⊥) → n (member.path ++ key k ∷ []) ≡ None
  pub moves : Moves n tokens (member.front ++ k ∷ []) m

-- `RenamesInText old tokens k new`: the texts read as documents, and renaming the member at `tokens` turns the first into the
-- second
abbrev pub RenamesInText : Text → List Text → Text → Text → Type 0
RenamesInText old tokens k new =
    (d d2 : Data) × (read old ≡ Some d) × (read new ≡ Some d2) × Renames (nodes d) tokens k (nodes d2)

-- `RenamesName old front x k new`: `new` is the text `old` with the name of one member replaced: a text of the string `x` by one
-- of the string `k`, without white space around them. After it come a colon and the own text of the value, to which `front`
-- and `x` lead in `old`, and `front` and `k` in `new`. So the member keeps its place, its value and its white space
pub record RenamesName (old : Text) (front : List Text) (x k new : Text) : Type 0 where
  pub name : Text
  pub name2 : Text
  pub colon : Text
  pub value : Text
  pub rest : Text
  pub e : Data
  pub splices : Splices old new name name2
  pub named : IsValueText (string x) name
  pub named2 : IsValueText (string k) name2
  pub after_is : splices.after ≡ colon ++ (value ++ rest)
  pub spaced : IsSpaced 58 colon
  pub found : FindsInText old (front ++ x ∷ []) e
  pub whole : IsValueText e value
  pub was_at : IsAt old (front ++ x ∷ []) value rest
  pub is_at : IsAt new (front ++ k ∷ []) value rest

-- `RenamesBytes old tokens k new`: only the name of the member at `tokens` changes, and nothing if `k` is its key
abbrev pub RenamesBytes : Text → List Text → Text → Text → Type 0
RenamesBytes old tokens k new =
    (front : List Text) × (x : Text) × (tokens ≡ front ++ x ∷ [])
    × (((k ≡ x) × (new ≡ old)) ⊎ RenamesName old front x k new)

-- `RefusesRename n tokens k e`: the node at `tokens` in `n` cannot get the key `k`, and `e` reports why. `NotAMember` is for the
-- root and for the elements of arrays
abbrev pub RefusesRename : NodeMap → List Text → Text → RenameError → Type 0
RefusesRename n tokens k NotThere = (w : Path) → Names n tokens w → ⊥
RefusesRename n tokens k NotAMember = ((w : Path) × Names n tokens w) × (IsMember n tokens → ⊥)
RefusesRename n tokens k KeyTaken =
    (member : IsMember n tokens) × (k ≡ member.x → ⊥) × IsSome (n (member.path ++ key k ∷ []))

-- `IsRenameError old tokens k e`: `e` is why renaming the member in the text `old` fails, unless an allocation failed. It is never
-- `TooDeep`
abbrev pub IsRenameError : Text → List Text → Text → StepError RenameError → Type 0
IsRenameError old tokens k NotJson = read old ≡ None
IsRenameError old tokens k (Refused e) = (d : Data) × (read old ≡ Some d) × RefusesRename (nodes d) tokens k e
IsRenameError old tokens k TooDeep = ⊥
IsRenameError old tokens k (Memory e) = ⊤
