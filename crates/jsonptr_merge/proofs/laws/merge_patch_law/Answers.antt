use Rattle.jsonptr_merge.proofs.PatchLaws.{replaces, absent, removes, merges}
use Rattle.jsonptr_merge.proofs.laws.merge_patch_law.Goals as goal

pub returns : goal.returns
returns c = record {
  replaces = replaces;
  object = λ n p root. root;
  absent = absent;
  null = removes;
  member = merges;
}
