use Rattle.jsonptr_text_resolve.proofs.FormatLaws.{one_value, not_both, value_in_json, error_in_json}
use Rattle.jsonptr_text_resolve.proofs.laws.format.outcome_law.Goals as goal

pub returns-clause-one_value : goal.returns-clause-one_value
returns-clause-one_value c = one_value

pub returns-clause-not_both : goal.returns-clause-not_both
returns-clause-not_both c = not_both

pub returns-clause-value_in_json : goal.returns-clause-value_in_json
returns-clause-value_in_json c = value_in_json

pub returns-clause-error_in_json : goal.returns-clause-error_in_json
returns-clause-error_in_json c = error_in_json
