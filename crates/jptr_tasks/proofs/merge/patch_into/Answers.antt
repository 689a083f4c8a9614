use Rattle.std.proofs.Common.{◌≡◌, List, sym, subst}
use Rattle.serde_json.specs.Data.{Data}
use Rattle.serde_json.specs.View.{view}
use Rattle.jsonptr_patch.specs.declared.operation.Operation.{Operation}
use Rattle.jsonptr_patch_document.specs.Document.{IsPatch}
use Rattle.jsonptr_text_value.specs.Operations.{operations_in}
use Rattle.jptr_tasks.proofs.merge.patch_into.Goals as goal

pub invariant_of-result : goal.invariant_of-result
invariant_of-result c =
    let os = c.in_ok-operations.operations.items in
    let same : operations_in c.in-Some.operations.items ≡ os = rw c.in-Some.is at c.in_ok-operations-2.ensures in
    let is = subst (λ (d : Data). IsPatch d os) (sym c.in_ok-document.ensures.document) (c.writing_law.ensures.read os) in
    record { is_patch = subst (λ (ps : List Operation). IsPatch (view c.in_ok-document.document) ps) (sym same) is }
