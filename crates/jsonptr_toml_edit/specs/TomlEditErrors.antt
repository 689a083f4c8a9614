-- Why an edit of the text of a TOML document is not made.
use Rattle.std.specs.Prelude.{◌≡◌, ◌<◌, ◌≤◌, ◌⊎◌, suc, List, None, length, ⊤}
use Rattle.toml.specs.Data.{Data}
use Rattle.toml.specs.Parse.{parse_document}
use Rattle.toml.specs.View.{view}
use Rattle.toml_parser.specs.Strings.{recursion_limit as max_depth}
use Rattle.jsonptr.specs.Assign.{RefusesAssign}
use Rattle.jsonptr.specs.Pointer.{tokens}
use Rattle.jsonptr.specs.Text.{Text}
use Rattle.jsonptr.specs.TomlValue.{nodes}
use Rattle.jsonptr_toml.specs.InToml.{ReadsAsToml, IsDeep, IsPrintTomlError, LacksInToml}
use Rattle.jsonptr_toml.specs.declared.error.PrintTomlError.TheVariants as printing
use Rattle.jsonptr_text_step.specs.Renaming.{RefusesRename}
use Rattle.jsonptr_toml_edit.specs.Failing.{AssignsInOrder, DeletesInOrder}
use Rattle.jsonptr_toml_edit.specs.Renaming.{RenamesInOrder}
use Rattle.jsonptr_toml_edit.specs.declared.edit.TomlEdit.{TomlEdit}
use Rattle.jsonptr_toml_edit.specs.declared.edit.TomlEdit.TheVariants as edits
use Rattle.jsonptr_toml_edit.specs.declared.edit_error.TomlEditError.{TomlEditError}
use Rattle.jsonptr_toml_edit.specs.declared.edit_error.TomlEditError.TheVariants.{NotToml, DocumentTooDeep, Assign, NotThere, Rename, TooDeep, NoText, Memory}

-- `FailsToAssignInToml old ts v e`: `e` is why `v` is not assigned at the tokens in the text `old`, unless an allocation failed
abbrev pub FailsToAssignInToml : Text → List Text → Data → TomlEditError → Type 0
FailsToAssignInToml old ts v NotToml = parse_document old ≡ None
FailsToAssignInToml old ts v DocumentTooDeep = IsDeep old
FailsToAssignInToml old ts v (Assign f) =
    (d : Data) × ReadsAsToml old d × (length ts ≤ suc max_depth) × RefusesAssign (nodes d) ts f
FailsToAssignInToml old ts v NotThere = ⊥
FailsToAssignInToml old ts v (Rename f) = ⊥
FailsToAssignInToml old ts v TooDeep =
    (((d : Data) × ReadsAsToml old d) × (suc max_depth < length ts))
    ⊎ ((d2 : Data) × AssignsInOrder old ts v d2 × IsPrintTomlError d2 printing.TooDeep)
FailsToAssignInToml old ts v NoText =
    (length ts ≤ suc max_depth) × ((d2 : Data) × AssignsInOrder old ts v d2 × IsPrintTomlError d2 printing.NoText)
FailsToAssignInToml old ts v (Memory f) = ⊤

-- `FailsToDeleteInToml old ts e`: `e` is why nothing is deleted at the tokens in the text `old`, unless an allocation failed
abbrev pub FailsToDeleteInToml : Text → List Text → TomlEditError → Type 0
FailsToDeleteInToml old ts NotToml = parse_document old ≡ None
FailsToDeleteInToml old ts DocumentTooDeep = IsDeep old
FailsToDeleteInToml old ts (Assign f) = ⊥
FailsToDeleteInToml old ts NotThere = LacksInToml old ts
FailsToDeleteInToml old ts (Rename f) = ⊥
FailsToDeleteInToml old ts TooDeep = (d2 : Data) × DeletesInOrder old ts d2 × IsPrintTomlError d2 printing.TooDeep
FailsToDeleteInToml old ts NoText = (d2 : Data) × DeletesInOrder old ts d2 × IsPrintTomlError d2 printing.NoText
FailsToDeleteInToml old ts (Memory f) = ⊤

-- `FailsToRenameInToml old ts k e`: `e` is why the value at the tokens in the text `old` does not get the key `k`, unless an
-- allocation failed
abbrev pub FailsToRenameInToml : Text → List Text → Text → TomlEditError → Type 0
FailsToRenameInToml old ts k NotToml = parse_document old ≡ None
FailsToRenameInToml old ts k DocumentTooDeep = IsDeep old
FailsToRenameInToml old ts k (Assign f) = ⊥
FailsToRenameInToml old ts k NotThere = ⊥
FailsToRenameInToml old ts k (Rename f) = (d : Data) × ReadsAsToml old d × RefusesRename (nodes d) ts k f
FailsToRenameInToml old ts k TooDeep = (d2 : Data) × RenamesInOrder old ts k d2 × IsPrintTomlError d2 printing.TooDeep
FailsToRenameInToml old ts k NoText = (d2 : Data) × RenamesInOrder old ts k d2 × IsPrintTomlError d2 printing.NoText
FailsToRenameInToml old ts k (Memory f) = ⊤

-- `IsTomlEditError old edit e`: `e` is why the edit is not made in the text `old`, unless an allocation failed
abbrev pub IsTomlEditError : Text → TomlEdit → TomlEditError → Type 0
IsTomlEditError old (edits.Assign pointer raw) e = FailsToAssignInToml old (tokens pointer) (view raw.value) e
IsTomlEditError old (edits.AssignValue pointer value) e = FailsToAssignInToml old (tokens pointer) (view value) e
IsTomlEditError old (edits.Delete pointer) e = FailsToDeleteInToml old (tokens pointer) e
IsTomlEditError old (edits.Rename pointer key) e = FailsToRenameInToml old (tokens pointer) key.now e
