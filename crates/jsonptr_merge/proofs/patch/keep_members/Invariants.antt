use Rattle.std.proofs.Common.{◌≡◌, List, ◌++◌}
use Rattle.serde_json.proofs.Views.{Entry}
use Rattle.jsonptr.specs.Text.{Text}
use Rattle.jsonptr_merge.specs.PrivateObjects.{SortedObject}
use Rattle.jsonptr_merge.proofs.ObjectLemmas.{found_under}
use Rattle.jsonptr_merge.proofs.PatchLemmas.{KeepStep}
use Rattle.jsonptr_merge.proofs.patch.keep_members.Given as goal

abbrev pub invariant-loop-key : goal.invariant-loop-key
invariant-loop-key l = record {
  done : List Entry;
  rest : l.members.entries ≡ done ++ l.key-iterator;
  each : (k : Text) → KeepStep l.changes l.fn.made k (found_under k done) l.made;
  sorted : SortedObject l.members → SortedObject l.fn.made → SortedObject l.made;
}
