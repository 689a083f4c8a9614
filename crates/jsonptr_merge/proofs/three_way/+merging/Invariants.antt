use Rattle.std.proofs.Common.{◌≡◌, List, ◌++◌, All, IsSome, string_cmp}
use Rattle.std.specs.List.Sorted.{IsStrictlySortedBy}
use Rattle.std.specs.Map.{keys_of}
use Rattle.serde_json.proofs.Views.{Entry}
use Rattle.jsonptr.specs.Text.{Text}
use Rattle.jsonptr_merge.specs.Outcome.{ConflictHasSortedKeys}
use Rattle.jsonptr_merge.specs.PrivateObjects.{Object, SortedObject, HasKeysOfAll}
use Rattle.jsonptr_merge.specs.PrivateTrail.{tokens_of}
use Rattle.jsonptr_merge.specs.PrivateSides.{AppendsUnder, SortedObjects}
use Rattle.jsonptr_merge.proofs.ObjectLemmas.{found_under}
use Rattle.jsonptr_merge.proofs.MergeLemmas.{MergeStep}
use Rattle.jsonptr_merge.proofs.three_way.+merging.Given as goal

abbrev pub invariant-merge_members-loop-name : goal.invariant-merge_members-loop-name
invariant-merge_members-loop-name l = record {
  names : Object;
  has : HasKeysOfAll l.base l.ours l.theirs names;
  ordered : IsStrictlySortedBy string_cmp (keys_of names.entries);
  done : List Entry;
  rest : names.entries ≡ done ++ l.name-iterator;
  each : (k : Text) → MergeStep l.base l.ours l.theirs k (found_under k done) l.made;
  found : AppendsUnder (λ k. IsSome (found_under k done)) (tokens_of l.at) l.base l.ours l.theirs l.fn.conflicts.items l.conflicts.items;
  sorted : SortedObjects l.base l.ours l.theirs → SortedObject l.made;
  conflicts_sorted : SortedObjects l.base l.ours l.theirs → All ConflictHasSortedKeys l.fn.conflicts.items → All ConflictHasSortedKeys l.conflicts.items;
}
