use Rattle.std.proofs.Common.{ℕ, ◌<◌, slice_index_or, [], ◌∷◌}
use Rattle.serde_json.specs.View.{view}
use Rattle.jsonptr.specs.Json.{nodes}
use Rattle.jsonptr.specs.Pointer.{tokens}
use Rattle.jsonptr_patch.specs.Apart.{AllDiverge, pointers}
use Rattle.jsonptr_patch.specs.declared.operation.Operation.{Operation}
use Rattle.jsonptr_patch.proofs.apart.diverges_from_each.Given as goal

abbrev pub invariant-loop-other : goal.invariant-loop-other
invariant-loop-other l = (k : ℕ) (x : Operation) → k < l.other-index → AllDiverge (nodes (view l.fn.document)) (tokens l.fn.pointer ∷ []) (pointers (slice_index_or l.fn.others k x))
