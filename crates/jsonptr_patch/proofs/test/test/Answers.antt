use Rattle.jsonptr_patch.proofs.OperatingLemmas.{test_passes, test_passes_numerically, test_refused, test_refused_numerically}
use Rattle.jsonptr_patch.proofs.test.test.Goals as goal

pub returns-in-Strict-clause-passes : goal.returns-in-Strict-clause-passes
returns-in-Strict-clause-passes c = rw c.in-Strict.is (test_passes _ _ _ _ _ c.in-Ok.ensures.found c.compare.ensures.passes)

pub returns-in-Strict-clause-refused : goal.returns-in-Strict-clause-refused
returns-in-Strict-clause-refused c = rw c.in-Strict.is (test_refused _ _ _ _ _ _ c.in-Ok.ensures.found c.compare.ensures.refused)

pub returns-in-Numeric-clause-passes : goal.returns-in-Numeric-clause-passes
returns-in-Numeric-clause-passes c = rw c.in-Numeric.is (test_passes_numerically _ _ _ _ _ c.in-Ok.ensures.found c.compare_numerically.ensures.passes)

pub returns-in-Numeric-clause-refused : goal.returns-in-Numeric-clause-refused
returns-in-Numeric-clause-refused c = rw c.in-Numeric.is (test_refused_numerically _ _ _ _ _ _ c.in-Ok.ensures.found c.compare_numerically.ensures.refused)
