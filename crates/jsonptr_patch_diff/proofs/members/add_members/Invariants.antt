use Rattle.std.proofs.Common.{◌≡◌, List, ◌++◌}
use Rattle.serde_json.proofs.Views.{Entry}
use Rattle.serde_json.specs.View.{view}
use Rattle.serde_json.specs.declared.value.Value.{Object}
use Rattle.jsonptr_patch_diff.specs.PrivateDiff.{tokens_of, AppendsChanges, Turns, object_map, mixed}
use Rattle.jsonptr_patch_diff.proofs.members.add_members.Given as goal

abbrev pub invariant-loop-key : goal.invariant-loop-key
invariant-loop-key l = record {
  done : List Entry;
  rest : l.new.entries ≡ done ++ l.key-iterator;
  turns : Turns (view (Object l.new)) l.fn.patch.items l.patch.items (tokens_of l.at) (mixed l.old.entries (object_map l.old) (object_map l.new)) (mixed done (mixed l.old.entries (object_map l.old) (object_map l.new)) (object_map l.new));
  changes : AppendsChanges (tokens_of l.at) (object_map l.old) (object_map l.new) l.fn.patch.items l.patch.items;
}
