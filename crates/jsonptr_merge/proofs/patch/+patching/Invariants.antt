use Rattle.std.proofs.Common.{◌≡◌, List, ◌++◌}
use Rattle.serde_json.proofs.Views.{Entry}
use Rattle.jsonptr.specs.Text.{Text}
use Rattle.jsonptr_merge.specs.PrivateObjects.{SortedObject}
use Rattle.jsonptr_merge.proofs.ObjectLemmas.{found_under}
use Rattle.jsonptr_merge.proofs.PatchLemmas.{ChangeStep}
use Rattle.jsonptr_merge.proofs.patch.+patching.Given as goal

abbrev pub invariant-change_members-loop-key : goal.invariant-change_members-loop-key
invariant-change_members-loop-key l = record {
  done : List Entry;
  rest : l.changes.entries ≡ done ++ l.key-iterator;
  each : (k : Text) → ChangeStep l.members l.fn.made k (found_under k done) l.made;
  sorted : SortedObject l.members → SortedObject l.changes → SortedObject l.fn.made → SortedObject l.made;
}
