-- What a three-way merge returns.
use Rattle.std.specs.Prelude.{All}
use Rattle.serde_json.specs.View.{view}
use Rattle.jsonptr.specs.Json.{nodes, HasSortedKeys}
use Rattle.jsonptr.specs.Node.{NodeMap}
use Rattle.jsonptr_merge.specs.Values.{SortedIn}
use Rattle.jsonptr_merge.specs.Merge.{IsMerge, HasNoConflict, AreConflicts}
use Rattle.jsonptr_merge.specs.declared.conflict.Conflict.{Conflict}
use Rattle.jsonptr_merge.specs.declared.three_way.Merged.{Merged}
use Rattle.jsonptr_merge.specs.declared.three_way.Merged.TheVariants.{Document, Conflicts}

-- `IsOutcome b o t r`: `r` is the merge of the three documents if they have no conflict, and else all
-- conflicts
abbrev pub IsOutcome : NodeMap → NodeMap → NodeMap → Merged → Type 0
IsOutcome b o t (Document v) = IsMerge b o t (nodes (view v)) × HasNoConflict b o t
IsOutcome b o t (Conflicts cs) = AreConflicts b o t cs.items

-- `ConflictHasSortedKeys c`: the keys of each object in the values of the conflict `c` are in order
pub record ConflictHasSortedKeys (c : Conflict) : Type 0 where
  pub base : SortedIn c.base
  pub ours : SortedIn c.ours
  pub theirs : SortedIn c.theirs

-- `OutcomeHasSortedKeys r`: so are those of each object in the merge, or in all conflicts
abbrev pub OutcomeHasSortedKeys : Merged → Type 0
OutcomeHasSortedKeys (Document v) = HasSortedKeys (view v)
OutcomeHasSortedKeys (Conflicts cs) = All ConflictHasSortedKeys cs.items
