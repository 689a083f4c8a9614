use Rattle.jsonptr_patch.specs.declared.comparison.Comparison.TheVariants.{Numeric}
use Rattle.jsonptr_text_edit.proofs.OutcomeLemmas.{edits_one, edits_both, edit_error_one}
use Rattle.jsonptr_text_edit.proofs.laws.edit_law.Goals as goal

pub returns-clause-one_document : goal.returns-clause-one_document
returns-clause-one_document c =
    edits_one c.assign_law.ensures.not_both c.assign_law.ensures.one_made c.assign_law.ensures.one (c.comparing_operation_law.ensures.one_map Numeric)
    (c.comparing_patch_law.ensures.failure_not_both Numeric) (c.comparing_patch_law.ensures.one_map Numeric) (c.comparing_patch_law.ensures.one_failure Numeric)

pub returns-clause-not_both : goal.returns-clause-not_both
returns-clause-not_both c =
    edits_both c.assign_law.ensures.not_both c.assign_law.ensures.one_made c.assign_law.ensures.one (c.comparing_operation_law.ensures.one_map Numeric)
    (c.comparing_patch_law.ensures.failure_not_both Numeric) (c.comparing_patch_law.ensures.one_map Numeric) (c.comparing_patch_law.ensures.one_failure Numeric)

pub returns-clause-one_error : goal.returns-clause-one_error
returns-clause-one_error c =
    edit_error_one c.assign_law.ensures.not_both c.assign_law.ensures.one_made c.assign_law.ensures.one (c.comparing_operation_law.ensures.one_map Numeric)
    (c.comparing_patch_law.ensures.failure_not_both Numeric) (c.comparing_patch_law.ensures.one_map Numeric) (c.comparing_patch_law.ensures.one_failure Numeric)
