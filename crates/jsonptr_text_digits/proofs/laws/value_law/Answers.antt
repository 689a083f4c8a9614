use Rattle.jsonptr_text_digits.proofs.EqualLemmas.{same_through, with_exponent, with_fraction, with_point}
use Rattle.jsonptr_text_digits.proofs.laws.value_law.Goals as goal

pub returns-clause-transitive : goal.returns-clause-transitive
returns-clause-transitive g = same_through

pub returns-clause-point : goal.returns-clause-point
returns-clause-point g = with_point

pub returns-clause-exponent : goal.returns-clause-exponent
returns-clause-exponent g = with_exponent

pub returns-clause-fraction : goal.returns-clause-fraction
returns-clause-fraction g = with_fraction
