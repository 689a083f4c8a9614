use Rattle.std.proofs.Common.{List, ap}
use Rattle.jsonptr.specs.Text.{Text}
use Rattle.jsonptr_patch.specs.declared.operation.Operation.TheVariants.{Add}
use Rattle.jsonptr_patch.proofs.inverse.addition_at.Goals as goal

pub returns-clause-restores : goal.returns-clause-restores
returns-clause-restores c = (c.in_ok-value.value, ap (λ (ts : List Text). Add ts c.in_ok-value.value) c.in_ok-path.ensures, c.in_ok-value.ensures.found)
