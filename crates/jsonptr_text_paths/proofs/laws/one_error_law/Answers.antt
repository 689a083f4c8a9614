use Rattle.jsonptr_text_paths.proofs.OneErrorLemmas.{one_line_error, one_stop, builds_or_stops, one_built}
use Rattle.jsonptr_text_paths.proofs.laws.one_error_law.Goals as goal

pub returns-clause-line : goal.returns-clause-line
returns-clause-line c = one_line_error c.assign_law.ensures.not_both c.assign_law.ensures.one_made c.assign_law.ensures.one

pub returns-clause-one_stop : goal.returns-clause-one_stop
returns-clause-one_stop c = one_stop c.assign_law.ensures.not_both c.assign_law.ensures.one_made c.assign_law.ensures.one

pub returns-clause-not_both : goal.returns-clause-not_both
returns-clause-not_both c = builds_or_stops c.assign_law.ensures.not_both c.assign_law.ensures.one_made c.assign_law.ensures.one

pub returns-clause-one_document : goal.returns-clause-one_document
returns-clause-one_document c = one_built c.assign_law.ensures.not_both c.assign_law.ensures.one_made c.assign_law.ensures.one
