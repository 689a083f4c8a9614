use Rattle.jsonptr_comments_step.proofs.KeptLemmas.{comments_before, comments_after, patch_keeps, renaming_keeps}
use Rattle.jsonptr_comments_step.proofs.laws.comments_law.Goals as goal

pub returns : goal.returns
returns c = record {
  before = comments_before;
  after = comments_after;
  patch = patch_keeps;
  renamed = renaming_keeps;
}
