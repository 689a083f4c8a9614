-- Why an edit of a TOML text fails. One text, pointer and value have one such error.
use Rattle.std.specs.Prelude.{◌≡◌, ◌<◌, ◌≤◌, ◌⊎◌, suc, List, None, length, ⊤}
use Rattle.toml.specs.Data.{Data}
use Rattle.toml.specs.Parse.{parse_document}
use Rattle.toml_parser.specs.Strings.{recursion_limit as max_depth}
use Rattle.jsonptr.specs.Text.{Text}
use Rattle.jsonptr.specs.TomlValue.{nodes, HasSortedKeys}
use Rattle.jsonptr.specs.Assign.{RefusesAssign}
use Rattle.jsonptr.specs.declared.assign.Error.{Error as AssignError}
use Rattle.std.specs.declared.convert.Infallible.{Infallible}
use Rattle.jsonptr_toml.specs.InToml.{ReadsAsToml, IsDeep, IsPrintTomlError, AssignsTo, DeletesTo}
use Rattle.jsonptr_toml.specs.declared.error.PrintTomlError.TheVariants as printing
use Rattle.jsonptr_toml.specs.declared.error.EditTomlError.{EditTomlError}
use Rattle.jsonptr_toml.specs.declared.error.EditTomlError.TheVariants.{NotToml, DocumentTooDeep, Refused, TooDeep, NoText, Memory}

-- `AssignsInOrder text ts v d2`: assigning `v` at the tokens turns the document of `text` into `d2`, whose keys are
-- sorted if those of `v` are
abbrev pub AssignsInOrder : Text → List Text → Data → Data → Type 0
AssignsInOrder text ts v d2 = AssignsTo text ts v d2 × (HasSortedKeys v → HasSortedKeys d2)

-- `DeletesInOrder text ts d2`: deleting at the tokens turns the document of `text` into `d2`, whose keys are sorted
abbrev pub DeletesInOrder : Text → List Text → Data → Type 0
DeletesInOrder text ts d2 = DeletesTo text ts d2 × HasSortedKeys d2

-- `IsAssignInTomlError text ts v e`: `e` is why `v` is not assigned at the tokens in the text, unless an allocation
-- failed
abbrev pub IsAssignInTomlError : Text → List Text → Data → EditTomlError AssignError → Type 0
IsAssignInTomlError text ts v NotToml = parse_document text ≡ None
IsAssignInTomlError text ts v DocumentTooDeep = IsDeep text
IsAssignInTomlError text ts v (Refused f) =
    (d : Data) × ReadsAsToml text d × (length ts ≤ suc max_depth) × RefusesAssign (nodes d) ts f
IsAssignInTomlError text ts v TooDeep =
    (((d : Data) × ReadsAsToml text d) × (suc max_depth < length ts))
    ⊎ ((d2 : Data) × AssignsInOrder text ts v d2 × IsPrintTomlError d2 printing.TooDeep)
IsAssignInTomlError text ts v NoText =
    (length ts ≤ suc max_depth) × ((d2 : Data) × AssignsInOrder text ts v d2 × IsPrintTomlError d2 printing.NoText)
IsAssignInTomlError text ts v (Memory f) = ⊤

-- `IsDeleteInTomlError text ts e`: `e` is why nothing is deleted in the text, unless an allocation failed
abbrev pub IsDeleteInTomlError : Text → List Text → EditTomlError Infallible → Type 0
IsDeleteInTomlError text ts NotToml = parse_document text ≡ None
IsDeleteInTomlError text ts DocumentTooDeep = IsDeep text
IsDeleteInTomlError text ts (Refused f) = ⊥
IsDeleteInTomlError text ts TooDeep = (d2 : Data) × DeletesInOrder text ts d2 × IsPrintTomlError d2 printing.TooDeep
IsDeleteInTomlError text ts NoText = (d2 : Data) × DeletesInOrder text ts d2 × IsPrintTomlError d2 printing.NoText
IsDeleteInTomlError text ts (Memory f) = ⊤

-- `IsTomlOutOfMemory e`: an allocation failed
abbrev pub IsTomlOutOfMemory : {E : Type 0} → EditTomlError E → Type 0
IsTomlOutOfMemory (Memory f) = ⊤
IsTomlOutOfMemory e = ⊥

-- `AreOneError e f`: `e` and `f` are equal, or an allocation failed
abbrev pub AreOneError : {E : Type 0} → EditTomlError E → EditTomlError E → Type 0
AreOneError e f = IsTomlOutOfMemory e ⊎ (IsTomlOutOfMemory f ⊎ (e ≡ f))
