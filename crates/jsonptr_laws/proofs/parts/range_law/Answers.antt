use Rattle.jsonptr_laws.proofs.PartLemmas.{part_one, all_one, bounds_one}
use Rattle.jsonptr_laws.proofs.parts.range_law.Goals as goal

pub returns : goal.returns
returns c = record {
  range = λ a b ts. part_one _ _ _ ts;
  from = λ a ts. part_one _ _ _ ts;
  to = λ b ts. part_one _ _ _ ts;
  all = all_one;
  inclusive = λ a b ts. part_one _ _ _ ts;
  to_inclusive = λ b ts. part_one _ _ _ ts;
  bounds = bounds_one;
}
