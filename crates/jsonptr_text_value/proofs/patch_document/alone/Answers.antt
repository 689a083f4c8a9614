use Rattle.std.proofs.Common.{◌∙◌}
use Rattle.jsonptr_text_value.proofs.patch_document.alone.Goals as goal

pub returns : goal.returns
returns c =
    let same = rw c.in-Some.is at c.in_ok-operation.ensures.operation in
    let text = rw c.in-Some.is at c.in_ok-operation.ensures.text in
    (c.in-Some.operation, c.in_ok-operations.ensures.items, same ∙ c.in_ok-document.ensures.operation, text)
