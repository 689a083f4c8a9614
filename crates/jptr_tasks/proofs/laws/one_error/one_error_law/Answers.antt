use Rattle.jptr_tasks.proofs.OneErrorLemmas.{one_error, one_error_on, no_error, one_line_error}
use Rattle.jptr_tasks.proofs.laws.one_error.one_error_law.Goals as goal

pub returns-clause-text : goal.returns-clause-text
returns-clause-text c = one_error c.resolve_law.ensures.not_both c.resolve_law.ensures.one c.edit_law.ensures.one_error c.edit_law.ensures.not_both

pub returns-clause-bytes : goal.returns-clause-bytes
returns-clause-bytes c = one_error_on c.resolve_law.ensures.not_both c.resolve_law.ensures.one c.edit_law.ensures.one_error c.edit_law.ensures.not_both

pub returns-clause-not_both : goal.returns-clause-not_both
returns-clause-not_both c = no_error c.resolve_law.ensures.not_both c.resolve_law.ensures.one c.edit_law.ensures.one_error c.edit_law.ensures.not_both

pub returns-clause-line : goal.returns-clause-line
returns-clause-line c = one_line_error c.resolve_law.ensures.not_both c.resolve_law.ensures.one c.edit_law.ensures.one_error c.edit_law.ensures.not_both
