-- What an edit makes of the text of a TOML document.
use Rattle.std.specs.Prelude.{⊤, string_bytes}
use Rattle.toml.specs.View.{view}
use Rattle.jsonptr.specs.Pointer.{tokens}
use Rattle.jsonptr.specs.Text.{Text}
use Rattle.jsonptr_toml.specs.InToml.{AssignsAndPrintsToml, DeletesAndPrintsToml}
use Rattle.jsonptr_text_edit.specs.declared.edited.Edited.{Edited}
use Rattle.jsonptr_text_edit.specs.declared.edited.Edited.TheVariants.{InPlace, Reprinted}
use Rattle.jsonptr_toml_edit.specs.Bytes.{AssignsTomlBytes, DeletesTomlBytes}
use Rattle.jsonptr_toml_edit.specs.EditInToml.{AssignsInToml, DeletesInToml}
use Rattle.jsonptr_toml_edit.specs.Giving.{AssignsTomlGiven}
use Rattle.jsonptr_toml_edit.specs.Renaming.{RenamesInToml, RenamesAndPrintsToml, RenamesTomlBytes}
use Rattle.jsonptr_toml_edit.specs.declared.edit.TomlEdit.{TomlEdit}
use Rattle.jsonptr_toml_edit.specs.declared.edit.TomlEdit.TheVariants.{Assign, AssignValue, Delete, Rename}

-- `EditsToml old edit new`: both texts read as documents, and the edit turns the first document into the second
abbrev pub EditsToml : Text → TomlEdit → Text → Type 0
EditsToml old (Assign pointer raw) new = AssignsInToml old (tokens pointer) (view raw.value) new
EditsToml old (AssignValue pointer value) new = AssignsInToml old (tokens pointer) (view value) new
EditsToml old (Delete pointer) new = DeletesInToml old (tokens pointer) new
EditsToml old (Rename pointer key) new = RenamesInToml old (tokens pointer) key.now new

-- `TomlEditBytes old edit new`: which bytes of the text `old` the edit changes. A value that the edit brings with its text has
-- that text there, byte for byte, or headers and dotted keys make it
abbrev pub TomlEditBytes : Text → TomlEdit → Text → Type 0
TomlEditBytes old (Assign pointer raw) new = AssignsTomlBytes old (tokens pointer) (view raw.value) new × AssignsTomlGiven old (tokens pointer) raw new
TomlEditBytes old (AssignValue pointer value) new = AssignsTomlBytes old (tokens pointer) (view value) new
TomlEditBytes old (Delete pointer) new = DeletesTomlBytes old (tokens pointer) new
TomlEditBytes old (Rename pointer key) new = RenamesTomlBytes old (tokens pointer) key.now new

-- `EditsAndPrintsToml old edit new`: the edit turns the document of the text `old` into another one, and `new` is what that one
-- is printed as
abbrev pub EditsAndPrintsToml : Text → TomlEdit → Text → Type 0
EditsAndPrintsToml old (Assign pointer raw) new = AssignsAndPrintsToml old (tokens pointer) (view raw.value) new
EditsAndPrintsToml old (AssignValue pointer value) new = AssignsAndPrintsToml old (tokens pointer) (view value) new
EditsAndPrintsToml old (Delete pointer) new = DeletesAndPrintsToml old (tokens pointer) new
EditsAndPrintsToml old (Rename pointer key) new = RenamesAndPrintsToml old (tokens pointer) key.now new

-- `IfReprinted P e`: if the document is printed anew, the text meets `P`
abbrev pub IfReprinted : (Text → Type 0) → Edited → Type 0
IfReprinted P (InPlace s) = ⊤
IfReprinted P (Reprinted s) = P (string_bytes s)
