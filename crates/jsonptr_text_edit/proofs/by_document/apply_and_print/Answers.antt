use Rattle.std.proofs.Common.{string_bytes}
use Rattle.jsonptr_text_value.specs.Operations.{operations_in}
use Rattle.jsonptr_text_edit.proofs.EditLemmas.{patch_fails}
use Rattle.jsonptr_text_edit.proofs.PatchLemmas.{patches_same, patch_error_same}
use Rattle.jsonptr_text_edit.proofs.by_document.apply_and_print.Goals as goal

pub returns-in-Ok-clause-edited : goal.returns-in-Ok-clause-edited
returns-in-Ok-clause-edited c =
    patches_same c.args.text.now (string_bytes c.in-Ok.new) c.in_ok-operations.operations.items (operations_in c.args.patch.now.operations.items) c.in_ok-operations.ensures c.in-Ok.ensures.applied

pub returns-in-Err-clause-refused : goal.returns-in-Err-clause-refused
returns-in-Err-clause-refused c =
    let os = c.in_ok-operations.operations.items in
    let ps = operations_in c.args.patch.now.operations.items in
    rw c.patch_error.ensures
    (patch_fails c.args.text.now ps c.in-Err.error (patch_error_same c.args.text.now os ps c.in-Err.error c.in_ok-operations.ensures c.in-Err.ensures.refused))
