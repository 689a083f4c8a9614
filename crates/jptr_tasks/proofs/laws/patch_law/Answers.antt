use Rattle.jptr_tasks.proofs.ResultLemmas.{patch_printed, patch_refused}
use Rattle.jptr_tasks.proofs.laws.patch_law.Goals as goal

pub returns : goal.returns
returns c = record {
  printed = patch_printed;
  refused = patch_refused;
}
