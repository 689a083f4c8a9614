use Rattle.jsonptr_text_resolve.proofs.FormatLaws.{one_form, own_form, form_again, same_values, same_errors, form_of_tokens}
use Rattle.jsonptr_text_resolve.proofs.laws.format.format_law.Goals as goal

pub returns-clause-one : goal.returns-clause-one
returns-clause-one c = one_form

pub returns-clause-fixed : goal.returns-clause-fixed
returns-clause-fixed c = own_form

pub returns-clause-again : goal.returns-clause-again
returns-clause-again c = form_again

pub returns-clause-values : goal.returns-clause-values
returns-clause-values c = same_values

pub returns-clause-errors : goal.returns-clause-errors
returns-clause-errors c = same_errors

pub returns-clause-tokens : goal.returns-clause-tokens
returns-clause-tokens c = form_of_tokens
