use Rattle.std.proofs.Common.{◌≡◌, ◌≤◌, take}
use Rattle.jsonptr_c_calls.specs.Depths.{descent, max_levels}
use Rattle.jsonptr_c_calls.proofs.depths.descent.Given as goal

abbrev pub invariant-loop-operation : goal.invariant-loop-operation
invariant-loop-operation l = (l.levels ≡ descent (take l.operation-index l.patch)) × (l.levels ≤ max_levels)
