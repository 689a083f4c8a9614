use Rattle.std.proofs.Common.{◌+◌, List, sym, subst, take}
use Rattle.serde_json.specs.View.{view, items_view}
use Rattle.serde_json.specs.declared.value.Value.{Value}
use Rattle.jsonptr_patch.specs.declared.operation.Operation.{Operation}
use Rattle.jsonptr_patch_document.specs.Object.{IsNoOperationObject}
use Rattle.jsonptr_patch_document.specs.Document.{AreOperations, HasNoOperation}
use Rattle.jsonptr_patch_document.proofs.DocumentLemmas.{are_more, bad_at, refused_on}
use Rattle.jsonptr_patch_document.proofs.read.read_elements.Goals as goal

pub returns-in_err-read-clause-refused : goal.returns-in_err-read-clause-refused
returns-in_err-read-clause-refused c =
    refused_on c.read_operation.result c.from_residual.result c.in_err-read.field-0.0 (IsNoOperationObject (view c.entry-item.result) c.loop-operation.operation) (HasNoOperation (items_view c.args.entries.now.items) 0)
    (λ e bad. subst (λ (l : List Value). HasNoOperation (items_view l) 0 e) c.deref-entry-items.ensures.value
    (bad_at c.deref-entry-items.result.now c.loop-operation.operation c.entry-item.result c.loop-operation.patch.items e c.loop-operation-test.true c.entry-item.is c.loop-operation.invariant bad))
    c.in_err-read.was c.read_operation.ensures.refused c.from_residual.ensures.1

pub loop-operation-preserved : goal.loop-operation-preserved
loop-operation-preserved c =
    subst (λ (os : List Operation). AreOperations (items_view (take (c.loop-operation.operation + 1) c.deref-entry-items.result.now)) os) (sym c.in_ok-append.ensures)
    (are_more c.deref-entry-items.result.now c.loop-operation.operation c.entry-item.result c.loop-operation.patch.items c.in_ok-read.read c.loop-operation-test.true c.entry-item.is c.loop-operation.invariant c.in_ok-read.ensures.operation)
