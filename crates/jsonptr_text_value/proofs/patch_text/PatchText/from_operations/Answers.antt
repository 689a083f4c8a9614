use Rattle.std.proofs.Common.{List, sym, subst}
use Rattle.serde_json.specs.Data.{Data}
use Rattle.serde_json.specs.View.{view}
use Rattle.jsonptr_patch.specs.declared.operation.Operation.{Operation}
use Rattle.jsonptr_patch_document.specs.Document.{IsPatch}
use Rattle.jsonptr_text_value.proofs.patch_text.PatchText.from_operations.Goals as goal

pub invariant_of-result : goal.invariant_of-result
invariant_of-result c =
    let os = c.args.operations.items in
    let is = subst (λ (d : Data). IsPatch d os) (sym c.in_ok-document.ensures.document) (c.writing_law.ensures.read os) in
    record { is_patch = subst (λ (ps : List Operation). IsPatch (view c.in_ok-document.document) ps) (sym c.in_ok-operations.ensures) is }
