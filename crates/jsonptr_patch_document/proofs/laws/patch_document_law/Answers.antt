use Rattle.jsonptr_patch.specs.declared.comparison.Comparison.TheVariants.{Strict}
use Rattle.jsonptr_patch_document.proofs.DocumentLemmas.{one_patch, one_patch_error, patch_or_not}
use Rattle.jsonptr_patch_document.proofs.SameLemmas.{same_effects, same_inverse}
use Rattle.jsonptr_patch_document.proofs.SortingLemmas.{patch_sorted}
use Rattle.jsonptr_patch_document.proofs.laws.patch_document_law.Goals as goal

pub returns-clause-one_patch : goal.returns-clause-one_patch
returns-clause-one_patch c = one_patch

pub returns-clause-one_error : goal.returns-clause-one_error
returns-clause-one_error c = one_patch_error c.operation_object_law.ensures.not_both c.operation_object_law.ensures.one_error

pub returns-clause-not_both : goal.returns-clause-not_both
returns-clause-not_both c = patch_or_not c.operation_object_law.ensures.not_both c.operation_object_law.ensures.one_error

pub returns-clause-same_effect : goal.returns-clause-same_effect
returns-clause-same_effect c = same_effects Strict

pub returns-clause-same_effect_comparing : goal.returns-clause-same_effect_comparing
returns-clause-same_effect_comparing c = same_effects

pub returns-clause-same_inverse : goal.returns-clause-same_inverse
returns-clause-same_inverse c = same_inverse

pub returns-clause-sorted : goal.returns-clause-sorted
returns-clause-sorted c = patch_sorted
