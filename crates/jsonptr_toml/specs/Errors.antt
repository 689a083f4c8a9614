-- How the errors of reading and printing become those of calls that do more.
use Rattle.jsonptr_toml.specs.declared.error.ReadTomlError.{ReadTomlError}
use Rattle.jsonptr_toml.specs.declared.error.ReadTomlError.TheVariants as reading
use Rattle.jsonptr_toml.specs.declared.error.PrintTomlError.{PrintTomlError}
use Rattle.jsonptr_toml.specs.declared.error.PrintTomlError.TheVariants as printing
use Rattle.jsonptr_toml.specs.declared.error.InTomlError.{InTomlError}
use Rattle.jsonptr_toml.specs.declared.error.InTomlError.TheVariants as finding
use Rattle.jsonptr_toml.specs.declared.error.EditTomlError.{EditTomlError}
use Rattle.jsonptr_toml.specs.declared.error.EditTomlError.TheVariants as editing

-- `in_toml_of_read e`: why a pointer is not resolved, if the text is not read for the reason `e`
abbrev pub in_toml_of_read : ReadTomlError → InTomlError
in_toml_of_read reading.NotToml = finding.NotToml
in_toml_of_read reading.DocumentTooDeep = finding.DocumentTooDeep
in_toml_of_read (reading.Memory e) = finding.Memory e

-- `edit_toml_of_read e`: why an edit fails, if the text is not read for the reason `e`
abbrev pub edit_toml_of_read : {E : Type 0} → ReadTomlError → EditTomlError E
edit_toml_of_read reading.NotToml = editing.NotToml
edit_toml_of_read reading.DocumentTooDeep = editing.DocumentTooDeep
edit_toml_of_read (reading.Memory e) = editing.Memory e

-- `edit_toml_of_print e`: why an edit fails, if the new document is not printed for the reason `e`
abbrev pub edit_toml_of_print : {E : Type 0} → PrintTomlError → EditTomlError E
edit_toml_of_print printing.TooDeep = editing.TooDeep
edit_toml_of_print printing.NoText = editing.NoText
edit_toml_of_print (printing.Memory e) = editing.Memory e
