use Rattle.jsonptr_patch_diff.proofs.StepLaws.{steps_patch, never_followed, replaced_once}
use Rattle.jsonptr_patch_diff.proofs.laws.change.step_law.Goals as goal

pub returns-clause-applied : goal.returns-clause-applied
returns-clause-applied c = steps_patch

pub returns-clause-followed : goal.returns-clause-followed
returns-clause-followed c = never_followed

pub returns-clause-once : goal.returns-clause-once
returns-clause-once c = replaced_once
