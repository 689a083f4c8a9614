use Rattle.std.proofs.Common.{◌≡◌, ℕ, ◌+◌, ◌-◌, ◌≤◌, List, length, ◌++◌}
use Rattle.serde_json.proofs.Views.{Entry}
use Rattle.serde_json.specs.View.{view}
use Rattle.serde_json.specs.declared.value.Value.{Array, Object}
use Rattle.jsonptr_patch.specs.declared.operation.Operation.{Operation}
use Rattle.jsonptr_patch_diff.specs.PrivateDiff.{tokens_of, AppendsChanges, AppendsParts, Turns, object_map, mixed, array_map, Splices}
use Rattle.jsonptr_patch_diff.specs.PrivateSame.{SameElements, AreSameFrom}
use Rattle.jsonptr_patch_diff.proofs.difference.+diff.Given as goal

abbrev pub invariant-diff_elements-loop-from : goal.invariant-diff_elements-loop-from
invariant-diff_elements-loop-from l = record {
  old : l.from ≤ l.old_end;
  new : l.to ≤ l.new_end;
  parts : AppendsParts (tokens_of l.at) l.fn.patch.items l.patch.items;
  kept : SameElements l.old.items l.new.items → (l.from ≡ l.to) × (l.patch.items ≡ l.fn.patch.items);
  spliced : (left : ℕ) → l.from + left ≡ length l.old.items
      → Splices (view (Array l.new)) l.fn.patch.items l.patch.items (tokens_of l.at) (array_map l.old) (array_map l.new) l.to l.from left;
}

abbrev pub decreases-diff_elements-loop-from : goal.decreases-diff_elements-loop-from
decreases-diff_elements-loop-from l = (l.old_end - l.from) + (l.new_end - l.to)

abbrev pub invariant-follow_elements-loop-done : goal.invariant-follow_elements-loop-done
invariant-follow_elements-loop-done l = record {
  parts : AppendsParts (tokens_of l.at) l.fn.patch.items l.patch.items;
  kept : AreSameFrom l.old.items l.pairs.from l.pairs.new.now.items l.pairs.to l.pairs.count → l.patch.items ≡ l.fn.patch.items;
  splices : (first : List Operation) (left togo : ℕ)
      → l.pairs.from + (l.pairs.count + left) ≡ length l.old.items → l.done + togo ≡ l.pairs.count
      → Splices (view (Array l.pairs.new.now)) first l.fn.patch.items (tokens_of l.at) (array_map l.old) (array_map l.pairs.new.now) l.pairs.to l.pairs.from (l.pairs.count + left)
      → Splices (view (Array l.pairs.new.now)) first l.patch.items (tokens_of l.at) (array_map l.old) (array_map l.pairs.new.now) (l.pairs.to + l.done) (l.pairs.from + l.done) (togo + left);
}

abbrev pub invariant-follow_members-loop-key : goal.invariant-follow_members-loop-key
invariant-follow_members-loop-key l = record {
  done : List Entry;
  rest : l.old.entries ≡ done ++ l.key-iterator;
  changes : AppendsChanges (tokens_of l.at) (object_map l.old) (object_map l.new) l.fn.patch.items l.patch.items;
  turns : Turns (view (Object l.new)) l.fn.patch.items l.patch.items (tokens_of l.at) (object_map l.old) (mixed done (object_map l.old) (object_map l.new));
}
