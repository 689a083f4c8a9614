use Rattle.serde_json.specs.View.{view}
use Rattle.jsonptr_text_value.specs.Operations.{operations_in}
use Rattle.jsonptr_text_edit.proofs.by_document.operations_of.Goals as goal

pub unreachable-requires : goal.unreachable-requires
unreachable-requires c =
    let p = c.args.patch.now in
    c.patch_document_law.ensures.not_both (view p.document) (operations_in p.operations.items) c.in-Err-Refused._error p.is_patch (rw c.in-Err-Refused.field-0-is at c.in-Err-Refused.ensures.refused)

pub returns-in-Ok : goal.returns-in-Ok
returns-in-Ok c =
    let p = c.args.patch.now in
    c.patch_document_law.ensures.one_patch (view p.document) c.in-Ok.operations.items (operations_in p.operations.items) c.in-Ok.ensures.patch p.is_patch
