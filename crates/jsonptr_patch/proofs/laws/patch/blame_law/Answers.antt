use Rattle.jsonptr_patch.proofs.FailingLemmas.{blames_from, blames_path, cause_of_pointer}
use Rattle.jsonptr_patch.proofs.laws.patch.blame_law.Goals as goal

pub returns : goal.returns
returns c = record {
  from = blames_from;
  path = blames_path;
  cause = cause_of_pointer;
}
