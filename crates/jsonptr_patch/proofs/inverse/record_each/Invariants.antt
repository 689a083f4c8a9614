use Rattle.std.proofs.Common.{◌≡◌, ◌++◌, length, reverse}
use Rattle.std.specs.Prelude.{All}
use Rattle.std.specs.Vec.Iter.{into_iter_items}
use Rattle.serde_json.specs.View.{view}
use Rattle.jsonptr.specs.Json.{nodes, HasSortedKeys}
use Rattle.jsonptr.specs.Node.{NodeMap}
use Rattle.jsonptr_patch.specs.Inverse.{TakesAllBackBy}
use Rattle.jsonptr_patch.specs.Order.{OperationHasSortedKeys}
use Rattle.jsonptr_patch.specs.Patching.{PatchesBy}
use Rattle.jsonptr_patch.specs.PrivateLater.{IsPending}
use Rattle.jsonptr_patch.specs.PrivateRecording.{Records}
use Rattle.jsonptr_patch.proofs.inverse.record_each.Given as goal

abbrev pub invariant-loop-operation : goal.invariant-loop-operation
invariant-loop-operation l = record {
  rest : l.yielded ++ into_iter_items l.operation-iterator ≡ l.fn.operations.items;
  counted : l.number ≡ length l.yielded;
  done : (n : NodeMap) × PatchesBy l.fn.first.comparison (nodes (view l.initial.document)) l.yielded n × IsPending (nodes (view l.document)) l.run.later.items n × TakesAllBackBy l.fn.first.comparison (nodes (view l.initial.document)) l.yielded (reverse l.inverse.items);
  ordered : All OperationHasSortedKeys l.fn.operations.items → HasSortedKeys (view l.initial.document) → HasSortedKeys (view l.document);
  kept : All OperationHasSortedKeys l.fn.operations.items → HasSortedKeys (view l.initial.document) → All OperationHasSortedKeys l.inverse.items;
  recorded : Records l.initial.run.journal l.initial.document l.run.journal l.document;
}
