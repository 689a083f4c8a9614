use Rattle.jsonptr_fragment.proofs.ErrorLaws.{one_error, not_both}
use Rattle.jsonptr_fragment.proofs.laws.fragment_error_law.Goals as goal

pub returns-clause-one_error : goal.returns-clause-one_error
returns-clause-one_error c = one_error

pub returns-clause-not_both : goal.returns-clause-not_both
returns-clause-not_both c = not_both
