use Rattle.std.proofs.Common.{All, take}
use Rattle.jptr_tasks.specs.Reprinting.{KeepsGiven}
use Rattle.jptr_tasks.proofs.reprint.loss_of_operations.Given as goal

abbrev pub invariant-operations : goal.invariant-operations
invariant-operations l = All KeepsGiven (take l.index l.operations)
