use Rattle.std.proofs.Common.{inl, subst, string_bytes}
use Rattle.jsonptr.specs.Text.{Text}
use Rattle.jptr_tasks.specs.Several.{ChangesText}
use Rattle.jptr_tasks.proofs.several.edit_next.Goals as goal

pub returns-in-Ok-Some-clause-edited : goal.returns-in-Ok-Some-clause-edited
returns-in-Ok-Some-clause-edited c =
    inl (subst (λ (t : Text). ChangesText c.args.rules t c.args.edit.now (string_bytes c.in-Ok-Some.new)) c.as_str.ensures.value (rw c.in-Ok-Some.field-0-is at c.in-Ok-Some.ensures.edited))
