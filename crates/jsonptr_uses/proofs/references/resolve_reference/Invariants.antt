use Rattle.serde_json.specs.View.{view}
use Rattle.jsonptr.specs.Pointer.{tokens}
use Rattle.jsonptr_uses.specs.References.{Follows}
use Rattle.jsonptr_uses.proofs.references.resolve_reference.Given as goal

abbrev pub invariant-loop-turn : goal.invariant-loop-turn
invariant-loop-turn l = Follows (view l.document) (tokens l.fn.pointer) l._turn l.current
