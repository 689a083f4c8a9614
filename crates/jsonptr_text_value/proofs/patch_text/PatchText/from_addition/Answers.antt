use Rattle.std.proofs.Common.{List, ap, ◌∙◌}
use Rattle.jsonptr.specs.Text.{Text}
use Rattle.jsonptr_patch.specs.declared.operation.Operation.TheVariants.{Add}
use Rattle.jsonptr_text_value.proofs.patch_text.PatchText.from_addition.Goals as goal

pub returns-in-Some-clause-addition : goal.returns-in-Some-clause-addition
returns-in-Some-clause-addition c =
    let a = rw c.in-Some.is at c.in_ok-patch.ensures in
    (a.0, c.in_ok-value.value, a.1, a.2 ∙ ap (λ (ts : List Text). Add ts c.in_ok-value.value) c.in_ok-path.ensures, c.in_ok-value.ensures, a.3)
