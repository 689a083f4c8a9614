use Rattle.std.specs.Vec.Iter.{into_iter_items}
use Rattle.serde_json.specs.View.{view}
use Rattle.jsonptr.specs.Json.{nodes, HasSortedKeys}
use Rattle.jsonptr.specs.Node.{NodeMap}
use Rattle.jsonptr_patch.specs.PrivateLater.{IsPending}
use Rattle.jsonptr_patch.proofs.later.unlink.Given as goal

abbrev pub invariant-loop-one : goal.invariant-loop-one
invariant-loop-one l = record {
  pending : (n : NodeMap) → IsPending (nodes (view l.initial.document)) l.fn.run.later.items n → IsPending (nodes (view l.document)) (into_iter_items l.one-iterator) n;
  ordered : HasSortedKeys (view l.initial.document) → HasSortedKeys (view l.document);
}
