use Rattle.jsonptr_patch.proofs.OneLemmas.{applies_one, applies_refused, refused_one, applies_tree, applies_listed}
use Rattle.jsonptr_patch.proofs.SomeLemmas.{applies_some}
use Rattle.jsonptr_patch.proofs.laws.operation.comparing_operation_law.Goals as goal

pub returns : goal.returns
returns c = record {
  some = λ by n k o. applies_some c.resolve_law.ensures.some c.assign_law.ensures.some by n k o;
  not_both = applies_refused;
  one_map = applies_one;
  one_error = λ by n k o e f. refused_one c.resolve_law.ensures.one c.assign_law.ensures.one by n k o e f;
  document = λ by n m o d a. (applies_tree by n m o d.0 a, applies_listed by n m o d.0 d.1 a);
}
