use Rattle.std.proofs.Common.{string_bytes, subst}
use Rattle.jsonptr.specs.Text.{Text}
use Rattle.jsonptr_text_value.specs.Operations.{operations_in}
use Rattle.jsonptr_comments_step.specs.Patches.{PatchEdits}
use Rattle.jsonptr_comments_step.specs.PrivateStepping.{IsPatched}
use Rattle.jsonptr_comments_step.proofs.PatchLemmas.{patch_pieces}
use Rattle.jsonptr_comments_step.proofs.apply.apply_with_comments.Goals as goal

pub returns-clause-pieces : goal.returns-clause-pieces
returns-clause-pieces c =
    let rs = c.args.operations.now in
    let text = string_bytes c.in_ok-from_str.field-0 in
    let made = string_bytes c.in-Some.new.text in
    let patched : IsPatched text (string_bytes c.in_ok-from_str-2.field-0) rs made (string_bytes c.in-Some.new.bare) = rw c.in-Some.is at c.in_ok-new.ensures in
    subst (λ (t : Text). PatchEdits t (operations_in rs) made) c.in_ok-from_str.ensures.ok (patch_pieces text made rs patched.bytes)
