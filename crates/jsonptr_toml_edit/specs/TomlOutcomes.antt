-- The edits and errors of which an edit of a TOML text has at most one.
use Rattle.std.specs.Prelude.{⊤}
use Rattle.toml.specs.View.{view}
use Rattle.jsonptr.specs.TomlValue.{HasSortedKeys}
use Rattle.jsonptr_toml_edit.specs.declared.edit.TomlEdit.{TomlEdit}
use Rattle.jsonptr_toml_edit.specs.declared.edit.TomlEdit.TheVariants as edits
use Rattle.jsonptr_toml_edit.specs.declared.edit_error.TomlEditError.{TomlEditError}
use Rattle.jsonptr_toml_edit.specs.declared.edit_error.TomlEditError.TheVariants.{NotToml, DocumentTooDeep, Assign, NotThere, Rename, TooDeep, NoText, Memory}

-- `TomlEditHasSortedKeys edit`: the keys of each table in the value that is assigned are in ascending order
abbrev pub TomlEditHasSortedKeys : TomlEdit → Type 0
TomlEditHasSortedKeys (edits.Assign pointer raw) = HasSortedKeys (view raw.value)
TomlEditHasSortedKeys (edits.AssignValue pointer value) = HasSortedKeys (view value)
TomlEditHasSortedKeys (edits.Delete pointer) = ⊤
TomlEditHasSortedKeys (edits.Rename pointer key) = ⊤

-- `IsTomlMemory e`: `e` is a failed allocation
abbrev pub IsTomlMemory : TomlEditError → Type 0
IsTomlMemory NotToml = ⊥
IsTomlMemory DocumentTooDeep = ⊥
IsTomlMemory (Assign f) = ⊥
IsTomlMemory NotThere = ⊥
IsTomlMemory (Rename f) = ⊥
IsTomlMemory TooDeep = ⊥
IsTomlMemory NoText = ⊥
IsTomlMemory (Memory f) = ⊤
