use Rattle.std.proofs.Common.{◌≡◌, ◌++◌}
use Rattle.std.specs.Vec.Iter.{into_iter_items}
use Rattle.jsonptr_text_value.specs.Operations.{operations_in}
use Rattle.jptr_tasks.proofs.merge.with_texts.Given as goal

abbrev pub invariant-loop-operation : goal.invariant-loop-operation
invariant-loop-operation l = operations_in l.made.items ++ into_iter_items l.operation-iterator ≡ l.fn.operations.items
