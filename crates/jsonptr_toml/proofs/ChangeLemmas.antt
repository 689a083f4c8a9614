-- From an error of reading or printing to that of the call.
use Rattle.std.proofs.Common.{inr, List}
use Rattle.toml.specs.Data.{Data}
use Rattle.jsonptr.specs.Text.{Text}
use Rattle.jsonptr_toml.specs.InToml.{AssignsTo, DeletesTo, IsInTomlError, IsAssignAndPrintError, IsDeleteAndPrintError, IsReadTomlError, IsPrintTomlError}
use Rattle.jsonptr_toml.specs.Errors.{in_toml_of_read, edit_toml_of_read, edit_toml_of_print}
use Rattle.jsonptr_toml.specs.declared.error.ReadTomlError.{ReadTomlError}
use Rattle.jsonptr_toml.specs.declared.error.ReadTomlError.TheVariants as reading
use Rattle.jsonptr_toml.specs.declared.error.PrintTomlError.{PrintTomlError}
use Rattle.jsonptr_toml.specs.declared.error.PrintTomlError.TheVariants as printing

pub unread_to_find : (text : Text) (ts : List Text) (e : ReadTomlError) → IsReadTomlError text e → IsInTomlError text ts (in_toml_of_read e)
unread_to_find text ts reading.NotToml h = h
unread_to_find text ts reading.DocumentTooDeep h = h
unread_to_find text ts (reading.Memory f) h = tt

pub unread_to_assign : (text : Text) (ts : List Text) (v : Data) (e : ReadTomlError) → IsReadTomlError text e → IsAssignAndPrintError text ts v (edit_toml_of_read e)
unread_to_assign text ts v reading.NotToml h = h
unread_to_assign text ts v reading.DocumentTooDeep h = h
unread_to_assign text ts v (reading.Memory f) h = tt

pub unprinted_after_assign : (text : Text) (ts : List Text) (v d2 : Data) (e : PrintTomlError) → AssignsTo text ts v d2 → IsPrintTomlError d2 e → IsAssignAndPrintError text ts v (edit_toml_of_print e)
unprinted_after_assign text ts v d2 printing.TooDeep made h = inr (d2, made, h)
unprinted_after_assign text ts v d2 printing.NoText made h = (d2, made, h)
unprinted_after_assign text ts v d2 (printing.Memory f) made h = tt

pub unread_to_delete : (text : Text) (ts : List Text) (e : ReadTomlError) → IsReadTomlError text e → IsDeleteAndPrintError text ts (edit_toml_of_read e)
unread_to_delete text ts reading.NotToml h = h
unread_to_delete text ts reading.DocumentTooDeep h = h
unread_to_delete text ts (reading.Memory f) h = tt

pub unprinted_after_delete : (text : Text) (ts : List Text) (d2 : Data) (e : PrintTomlError) → DeletesTo text ts d2 → IsPrintTomlError d2 e → IsDeleteAndPrintError text ts (edit_toml_of_print e)
unprinted_after_delete text ts d2 printing.TooDeep made h = (d2, made, h)
unprinted_after_delete text ts d2 printing.NoText made h = (d2, made, h)
unprinted_after_delete text ts d2 (printing.Memory f) made h = tt
