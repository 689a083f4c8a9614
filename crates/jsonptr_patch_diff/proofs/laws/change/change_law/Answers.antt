use Rattle.jsonptr_patch_diff.proofs.ChangeLaws.{no_change, unchanged, as_a_whole}
use Rattle.jsonptr_patch_diff.proofs.laws.change.change_law.Goals as goal

pub returns-clause-same : goal.returns-clause-same
returns-clause-same c = no_change

pub returns-clause-unchanged : goal.returns-clause-unchanged
returns-clause-unchanged c = unchanged

pub returns-clause-whole : goal.returns-clause-whole
returns-clause-whole c = as_a_whole
