use Rattle.std.proofs.Common.{◌≡◌, ◌++◌, map}
use Rattle.std.specs.Vec.Iter.{into_iter_items}
use Rattle.jsonptr_run_command.specs.Operations.{AreOperationsOf, data_of}
use Rattle.jsonptr_run_command.specs.PrivateOperations.{texts_of}
use Rattle.jsonptr_run_command.proofs.operations.to_operations.Given as goal

abbrev pub invariant-loop-words : goal.invariant-loop-words
invariant-loop-words l = record {
  rest : l.yielded ++ into_iter_items l.words-iterator ≡ l.fn.operations.items;
  done : AreOperationsOf (map texts_of l.yielded) (map data_of l.patch.items);
}
