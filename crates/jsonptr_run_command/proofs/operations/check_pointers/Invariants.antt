use Rattle.std.proofs.Common.{All, map, take}
use Rattle.jsonptr.specs.Grammar.{IsPointer}
use Rattle.jsonptr_run_command.specs.Operations.{pointers_of}
use Rattle.jsonptr_run_command.specs.PrivateOperations.{texts_of}
use Rattle.jsonptr_run_command.proofs.operations.check_pointers.Given as goal

abbrev pub invariant-loop-words : goal.invariant-loop-words
invariant-loop-words l = All IsPointer (pointers_of (map texts_of (take l.words-index l.operations)))
