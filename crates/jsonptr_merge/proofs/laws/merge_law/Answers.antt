use Rattle.std.proofs.Common.{refl, []}
use Rattle.jsonptr_merge.proofs.MergeLaws.{symmetric, same_conflicts, one_merge}
use Rattle.jsonptr_merge.proofs.laws.merge_law.Goals as goal

pub returns : goal.returns
returns c = record {
  symmetric = symmetric;
  same_conflicts = same_conflicts;
  theirs_alone = λ b t m h. h.theirs [] refl;
  ours_alone = λ b o m h. h.ours [] refl;
  agreed = λ b x m h. h.both [] refl;
  one_merge = λ b o t m l none h g w. one_merge w b o t m l none h g;
  no_conflict_theirs = λ b t w h. h.differ.ours refl;
  no_conflict_ours = λ b o w h. h.differ.theirs refl;
  no_conflict_agreed = λ b x w h. h.differ.both refl;
}
