use Rattle.std.proofs.lemmas.Float.{eq_flip, eq_trans}
use Rattle.jsonptr_patch.specs.Testing.{exact}
use Rattle.jsonptr_patch.specs.declared.comparison.Comparison.TheVariants.{Numeric}
use Rattle.jsonptr_patch.proofs.ComparisonLemmas.{strict_equal, plain_equal, integers_same, numeric_patches, numeric_refused}
use Rattle.jsonptr_patch.proofs.TestingLemmas.{numbers_equal}
use Rattle.jsonptr_patch.proofs.laws.comparison.test_comparison_law.Goals as goal

pub returns : goal.returns
returns c = record {
  strict = strict_equal;
  plain = plain_equal;
  numbers = λ a b. ((numbers_equal Numeric a b).1, (numbers_equal Numeric a b).0);
  integers = integers_same;
  floats = λ x y. (λ h. h, λ h. h);
  symmetric = λ a b. eq_flip (exact a) (exact b);
  transitive = λ a b d. eq_trans (exact a) (exact b) (exact d);
  patches = numeric_patches;
  refused = numeric_refused;
}
