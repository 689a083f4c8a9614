use Rattle.std.proofs.Common.{ℕ, ◌<◌, slice_index_or}
use Rattle.serde_json.specs.View.{view}
use Rattle.jsonptr.specs.Json.{nodes}
use Rattle.jsonptr_patch.specs.Apart.{AllDiverge, pointers, all_pointers}
use Rattle.jsonptr_patch.specs.declared.operation.Operation.{Operation}
use Rattle.jsonptr_patch.proofs.apart.are_apart.Given as goal

abbrev pub invariant-loop-operation : goal.invariant-loop-operation
invariant-loop-operation l = (k : ℕ) (x : Operation) → k < l.operation-index → AllDiverge (nodes (view l.fn.document)) (pointers (slice_index_or l.fn.left k x)) (all_pointers l.fn.right)
