use Rattle.std.proofs.Common.{ℕ, List, subst}
use Rattle.std.specs.Prelude.{All}
use Rattle.serde_json.specs.View.{view}
use Rattle.serde_json.specs.declared.value.Value.{Value}
use Rattle.jsonptr_patch_document.specs.Document.{IsPatch}
use Rattle.jsonptr_text_value.specs.Operations.{IsGivenIn, operations_in}
use Rattle.jsonptr_c_calls.proofs.given.read_patch.Goals as goal

pub returns-in-Ok-clause-patch : goal.returns-in-Ok-clause-patch
returns-in-Ok-clause-patch c =
    let items = c.in-Ok.patch.operations.items in
    let is_patch = subst (λ (v : Value). IsPatch (view v) (operations_in items)) c.in-Ok.ensures.document c.in-Ok.patch.is_patch in
    let given = subst (λ (t : List ℕ). All (IsGivenIn t) items) c.in_ok-text.ensures.text c.in-Ok.ensures.texts in
    ((view c.in_ok-document.document, c.in_ok-document.ensures.read, is_patch), given)
