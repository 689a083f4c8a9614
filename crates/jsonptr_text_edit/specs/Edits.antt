-- What an edit makes of the text of a document.
use Rattle.jsonptr.specs.Json.{nodes}
use Rattle.jsonptr.specs.Pointer.{tokens}
use Rattle.jsonptr.specs.Text.{Text}
use Rattle.jsonptr_text_step.specs.Bytes.{DeletesBytes}
use Rattle.jsonptr_text_step.specs.EditInText.{AssignsInText, DeletesInText}
use Rattle.jsonptr_text_step.specs.Giving.{AssignsGiven}
use Rattle.jsonptr_text_step.specs.PatchInText.{PatchesInText}
use Rattle.jsonptr_text_step.specs.RawPatching.{RawPatchBytes}
use Rattle.jsonptr_text_step.specs.Renaming.{RenamesInText, RenamesBytes}
use Rattle.jsonptr_text_value.specs.Operations.{operations_in}
use Rattle.jsonptr_text_value.specs.Raw.{value_of_raw}
use Rattle.jsonptr_text_edit.specs.declared.edit.Edit.{Edit}
use Rattle.jsonptr_text_edit.specs.declared.edit.Edit.TheVariants.{Assign, Delete, Rename, Patch}

-- `EditsText old edit new`: both texts read as documents, and the edit turns the first document into the second
abbrev pub EditsText : Text → Edit → Text → Type 0
EditsText old (Assign pointer raw) new = AssignsInText old (tokens pointer) (nodes (value_of_raw raw)) new
EditsText old (Delete pointer) new = DeletesInText old (tokens pointer) new
EditsText old (Rename pointer key) new = RenamesInText old (tokens pointer) key.now new
EditsText old (Patch patch) new = PatchesInText old (operations_in patch.operations.items) new

-- `EditBytes old edit new`: which bytes of the text `old` the edit changes. A value that the edit brings has the JSON tokens
-- of its own text there, one for one
abbrev pub EditBytes : Text → Edit → Text → Type 0
EditBytes old (Assign pointer raw) new = AssignsGiven old (tokens pointer) raw new
EditBytes old (Delete pointer) new = DeletesBytes old (tokens pointer) new
EditBytes old (Rename pointer key) new = RenamesBytes old (tokens pointer) key.now new
EditBytes old (Patch patch) new = RawPatchBytes old patch.operations.items new
