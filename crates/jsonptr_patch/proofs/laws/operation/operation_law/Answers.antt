use Rattle.jsonptr_patch.proofs.OneLemmas.{applies_one, applies_refused, refused_one, applies_tree, applies_listed}
use Rattle.jsonptr_patch.proofs.SomeLemmas.{applies_some}
use Rattle.jsonptr_patch.proofs.laws.operation.operation_law.Goals as goal
use Rattle.jsonptr_patch.specs.declared.comparison.Comparison.TheVariants.{Strict}

pub returns : goal.returns
returns c = record {
  some = applies_some c.resolve_law.ensures.some c.assign_law.ensures.some Strict;
  not_both = applies_refused Strict;
  one_map = applies_one Strict;
  one_error = refused_one c.resolve_law.ensures.one c.assign_law.ensures.one Strict;
  document = λ n m o d a. (applies_tree Strict n m o d.0 a, applies_listed Strict n m o d.0 d.1 a);
}
