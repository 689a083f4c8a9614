use Rattle.std.proofs.Common.{◌++◌, ◌∷◌, [], List, subst}
use Rattle.serde_json.specs.View.{items_view}
use Rattle.serde_json.specs.declared.value.Value.{Value}
use Rattle.jsonptr_patch_document.specs.Document.{HasNoOperation}
use Rattle.jsonptr_patch_document.specs.PrivateParts.{operation_of}
use Rattle.jsonptr_patch_document.proofs.DocumentLemmas.{are_more, bad_at}
use Rattle.jsonptr_patch_document.proofs.read.first_error.Goals as goal

pub returns-in-Err : goal.returns-in-Err
returns-in-Err c =
    subst (λ (l : List Value). HasNoOperation (items_view l) 0 c.in-Err.error) c.deref-entry-items.ensures.value
    (bad_at c.deref-entry-items.result.now c.loop-operation.operation c.entry-item.result c.loop-operation.invariant.0 c.in-Err.error c.loop-operation-test.true c.entry-item.is c.loop-operation.invariant.1 c.in-Err.ensures)

pub loop-operation-preserved : goal.loop-operation-preserved
loop-operation-preserved c =
    (c.loop-operation.invariant.0 ++ operation_of c.in_default.field-0 ∷ [], are_more c.deref-entry-items.result.now c.loop-operation.operation c.entry-item.result c.loop-operation.invariant.0 (operation_of c.in_default.field-0) c.loop-operation-test.true c.entry-item.is c.loop-operation.invariant.1 c.in_default.ensures)
