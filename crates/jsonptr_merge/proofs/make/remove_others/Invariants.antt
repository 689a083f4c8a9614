use Rattle.std.proofs.Common.{◌≡◌, List, ◌++◌}
use Rattle.serde_json.proofs.Views.{Entry}
use Rattle.jsonptr.specs.Text.{Text}
use Rattle.jsonptr_merge.specs.PrivateObjects.{SortedObject}
use Rattle.jsonptr_merge.proofs.ObjectLemmas.{found_under}
use Rattle.jsonptr_merge.proofs.MakeLemmas.{RemoveStep}
use Rattle.jsonptr_merge.proofs.make.remove_others.Given as goal

abbrev pub invariant-loop-key : goal.invariant-loop-key
invariant-loop-key l = record {
  done : List Entry;
  rest : l.before.entries ≡ done ++ l.key-iterator;
  each : (k : Text) → RemoveStep l.members l.fn.made k (found_under k done) l.made;
  sorted : SortedObject l.fn.made → SortedObject l.made;
}
