use Rattle.std.proofs.Common.{take}
use Rattle.std.specs.Prelude.{All}
use Rattle.jsonptr.specs.Pointer.{tokens}
use Rattle.jsonptr_uses.proofs.settings.get.Given as goal

abbrev pub invariant-loop-layer : goal.invariant-loop-layer
invariant-loop-layer g l = All (λ layer. (e : g.row.D-Error.Denot) × g.D.Resolve.refuses layer (tokens l.pointer) e) (take l.layer-index l.layers)
