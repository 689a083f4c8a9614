use Rattle.std.proofs.Common.{◌≡◌, List, sym, subst}
use Rattle.serde_json.specs.View.{view}
use Rattle.jsonptr_patch.specs.declared.operation.Operation.{Operation}
use Rattle.jsonptr_patch_document.specs.Document.{IsPatch}
use Rattle.jsonptr_text_value.specs.Operations.{operations_in}
use Rattle.jsonptr_text_value.proofs.patch_document.with_texts.Goals as goal

pub invariant_of-result : goal.invariant_of-result
invariant_of-result c =
    let same : operations_in c.in-Some.operations.items ≡ c.args.operations.items = rw c.in-Some.is at c.in_ok-found.ensures.same in
    record { is_patch = subst (λ (os : List Operation). IsPatch (view c.args.document) os) (sym same) c.requires }

pub returns-in-Some-clause-texts : goal.returns-in-Some-clause-texts
returns-in-Some-clause-texts c = rw c.in-Some.is at c.in_ok-found.ensures.texts

pub returns-in-None-clause-refused : goal.returns-in-None-clause-refused
returns-in-None-clause-refused c = (c.args.operations.items, c.requires)
