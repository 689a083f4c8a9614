use Rattle.std.proofs.Common.{◌≡◌, List, ◌++◌}
use Rattle.serde_json.proofs.Views.{Entry}
use Rattle.jsonptr.specs.Text.{Text}
use Rattle.jsonptr_merge.specs.PrivateObjects.{SortedObject}
use Rattle.jsonptr_merge.proofs.ObjectLemmas.{found_under}
use Rattle.jsonptr_merge.proofs.MakeLemmas.{MakeStep, HasNone}
use Rattle.jsonptr_merge.proofs.make.+making.Given as goal

abbrev pub invariant-make_changes-loop-key : goal.invariant-make_changes-loop-key
invariant-make_changes-loop-key l = record {
  done : List Entry;
  rest : l.members.entries ≡ done ++ l.key-iterator;
  each : (k : Text) → MakeStep l.before l.fn.made k (found_under k done) l.made;
  sorted : SortedObject l.members → SortedObject l.fn.made → SortedObject l.made;
  none : HasNone l.before l.members done;
}
