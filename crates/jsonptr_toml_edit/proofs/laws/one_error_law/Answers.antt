use Rattle.jsonptr_patch.specs.declared.comparison.Comparison.TheVariants.{Numeric}
use Rattle.jsonptr_toml_edit.proofs.FailingLemmas.{one_assign_error, one_delete_error, lacking_error, lacking_or_deleted}
use Rattle.jsonptr_toml_edit.proofs.OutcomeLemmas.{toml_edit_error_one}
use Rattle.jsonptr_toml_edit.proofs.laws.one_error_law.Goals as goal

pub returns-clause-edit : goal.returns-clause-edit
returns-clause-edit c =
    toml_edit_error_one c.assign_law.ensures.not_both c.assign_law.ensures.one_made c.assign_law.ensures.one (c.comparing_operation_law.ensures.one_map Numeric)

pub returns-clause-assign : goal.returns-clause-assign
returns-clause-assign c = one_assign_error c.assign_law.ensures.not_both c.assign_law.ensures.one_made c.assign_law.ensures.one

pub returns-clause-delete : goal.returns-clause-delete
returns-clause-delete c = one_delete_error

pub returns-clause-lacking : goal.returns-clause-lacking
returns-clause-lacking c = lacking_error

pub returns-clause-not_both : goal.returns-clause-not_both
returns-clause-not_both c = lacking_or_deleted
