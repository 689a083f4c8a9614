use Rattle.std.proofs.Common.{ℕ, ◌<◌, slice_index_or, IfSome}
use Rattle.serde_json.specs.View.{view}
use Rattle.jsonptr.specs.Json.{nodes}
use Rattle.jsonptr.specs.Pointer.{tokens}
use Rattle.jsonptr_patch.specs.Apart.{Diverges}
use Rattle.jsonptr_patch.specs.PrivateLater.{IsObjectAt}
use Rattle.jsonptr_patch.specs.declared.later.Later.{Later}
use Rattle.jsonptr_patch.proofs.later.diverges_from_all.Given as goal

abbrev pub invariant-loop-one : goal.invariant-loop-one
invariant-loop-one l = record {
  known : IfSome l.known (λ p. IsObjectAt (nodes (view l.fn.document)) (tokens p));
  apart : (k : ℕ) (x : Later) → k < l.one-index → Diverges (nodes (view l.fn.document)) (tokens l.fn.pointer) (slice_index_or l.fn.later k x).path;
}
