-- The edits and errors of which an edit of a text has one outcome.
use Rattle.std.specs.Prelude.{All, ⊤}
use Rattle.jsonptr_patch.specs.Order.{OperationHasSortedKeys}
use Rattle.jsonptr_text_value.specs.Operations.{operations_in}
use Rattle.jsonptr_text_edit.specs.declared.edit.Edit.{Edit}
use Rattle.jsonptr_text_edit.specs.declared.edit.Edit.TheVariants as edits
use Rattle.jsonptr_text_edit.specs.declared.edit_error.EditError.{EditError}
use Rattle.jsonptr_text_edit.specs.declared.edit_error.EditError.TheVariants.{NotJson, Assign, NotThere, Rename, Patch, TooDeep, Memory}

-- `EditHasSortedKeys edit`: the keys of each object in the values that a patch adds to a document are in ascending order
abbrev pub EditHasSortedKeys : Edit → Type 0
EditHasSortedKeys (edits.Assign pointer raw) = ⊤
EditHasSortedKeys (edits.Delete pointer) = ⊤
EditHasSortedKeys (edits.Rename pointer key) = ⊤
EditHasSortedKeys (edits.Patch patch) = All OperationHasSortedKeys (operations_in patch.operations.items)

-- `IsMemory e`: `e` is a failed allocation
abbrev pub IsMemory : EditError → Type 0
IsMemory NotJson = ⊥
IsMemory (Assign f) = ⊥
IsMemory NotThere = ⊥
IsMemory (Rename f) = ⊥
IsMemory (Patch f) = ⊥
IsMemory TooDeep = ⊥
IsMemory (Memory f) = ⊤
