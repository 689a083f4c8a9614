-- Why an edit of the text of a document is not made.
use Rattle.std.specs.Prelude.{◌≡◌, List, All, Option, Some, None, ⊤}
use Rattle.serde_json.specs.Data.{Data}
use Rattle.serde_json.specs.Read.{read}
use Rattle.jsonptr.specs.Assign.{RefusesAssign}
use Rattle.jsonptr.specs.Assigning.{Assigns}
use Rattle.jsonptr.specs.Json.{nodes}
use Rattle.jsonptr.specs.Node.{NodeMap}
use Rattle.jsonptr.specs.Pointer.{tokens}
use Rattle.jsonptr.specs.Text.{Text}
use Rattle.jsonptr_patch.specs.Order.{OperationHasSortedKeys}
use Rattle.jsonptr_patch.specs.Patching.{PatchesBy, FailsBy}
use Rattle.jsonptr_patch.specs.declared.comparison.Comparison.TheVariants.{Numeric}
use Rattle.jsonptr_patch.specs.declared.operation.Operation.{Operation}
use Rattle.jsonptr_text_step.specs.EditInText.{IsTooDeep, LacksInText}
use Rattle.jsonptr_text_step.specs.Renaming.{RefusesRename}
use Rattle.jsonptr_text_value.specs.Operations.{operations_in}
use Rattle.jsonptr_text_value.specs.Raw.{value_of_raw}
use Rattle.jsonptr_text_value.specs.declared.raw_value.RawValue.{RawValue}
use Rattle.jsonptr_text_edit.specs.declared.edit.Edit.{Edit}
use Rattle.jsonptr_text_edit.specs.declared.edit.Edit.TheVariants as edits
use Rattle.jsonptr_text_edit.specs.declared.edit_error.EditError.{EditError}
use Rattle.jsonptr_text_edit.specs.declared.edit_error.EditError.TheVariants.{NotJson, Assign, NotThere, Rename, Patch, TooDeep, Memory}

-- `FailsToAssign old tokens raw e`: `e` is why the value of `raw` is not assigned at the tokens in the text `old`, unless an
-- allocation failed
abbrev pub FailsToAssign : Text → List Text → RawValue → EditError → Type 0
FailsToAssign old tokens raw NotJson = read old ≡ None
FailsToAssign old tokens raw (Assign f) = (d : Data) × (read old ≡ Some d) × RefusesAssign (nodes d) tokens f
FailsToAssign old tokens raw NotThere = ⊥
FailsToAssign old tokens raw (Rename f) = ⊥
FailsToAssign old tokens raw (Patch f) = ⊥
FailsToAssign old tokens raw TooDeep =
    (d : Data) × (m : NodeMap) × (replaced : Option NodeMap)
    × (read old ≡ Some d) × Assigns (nodes d) tokens (nodes (value_of_raw raw)) m replaced × IsTooDeep m
FailsToAssign old tokens raw (Memory f) = ⊤

-- `FailsToDelete old tokens e`: `e` is why nothing is deleted at the tokens in the text `old`, unless an allocation failed
abbrev pub FailsToDelete : Text → List Text → EditError → Type 0
FailsToDelete old tokens NotJson = read old ≡ None
FailsToDelete old tokens (Assign f) = ⊥
FailsToDelete old tokens NotThere = LacksInText old tokens
FailsToDelete old tokens (Rename f) = ⊥
FailsToDelete old tokens (Patch f) = ⊥
FailsToDelete old tokens TooDeep = ⊥
FailsToDelete old tokens (Memory f) = ⊤

-- `FailsToRename old tokens k e`: `e` is why the value at the tokens in the text `old` does not get the key `k`, unless an
-- allocation failed
abbrev pub FailsToRename : Text → List Text → Text → EditError → Type 0
FailsToRename old tokens k NotJson = read old ≡ None
FailsToRename old tokens k (Assign f) = ⊥
FailsToRename old tokens k NotThere = ⊥
FailsToRename old tokens k (Rename f) = (d : Data) × (read old ≡ Some d) × RefusesRename (nodes d) tokens k f
FailsToRename old tokens k (Patch f) = ⊥
FailsToRename old tokens k TooDeep = ⊥
FailsToRename old tokens k (Memory f) = ⊤

-- `FailsToPatch old os e`: `e` is why the operations `os` are not applied in the text `old`, unless an allocation failed.
-- `TooDeep` says that the new document is too deep, if the keys of their values are sorted, as those of each value that is
-- read
abbrev pub FailsToPatch : Text → List Operation → EditError → Type 0
FailsToPatch old os NotJson = read old ≡ None
FailsToPatch old os (Assign f) = ⊥
FailsToPatch old os NotThere = ⊥
FailsToPatch old os (Rename f) = ⊥
FailsToPatch old os (Patch f) = (d : Data) × (read old ≡ Some d) × FailsBy Numeric (nodes d) os f
FailsToPatch old os TooDeep =
    (d : Data) × (m : NodeMap)
    × (read old ≡ Some d) × PatchesBy Numeric (nodes d) os m × (All OperationHasSortedKeys os → IsTooDeep m)
FailsToPatch old os (Memory f) = ⊤

-- `IsEditError old edit e`: `e` is why the edit is not made in the text `old`, unless an allocation failed
abbrev pub IsEditError : Text → Edit → EditError → Type 0
IsEditError old (edits.Assign pointer raw) e = FailsToAssign old (tokens pointer) raw e
IsEditError old (edits.Delete pointer) e = FailsToDelete old (tokens pointer) e
IsEditError old (edits.Rename pointer key) e = FailsToRename old (tokens pointer) key.now e
IsEditError old (edits.Patch patch) e = FailsToPatch old (operations_in patch.operations.items) e
