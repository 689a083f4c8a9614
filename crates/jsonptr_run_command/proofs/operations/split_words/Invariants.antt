use Rattle.std.proofs.Common.{◌≡◌, ◌++◌, map, string_bytes, length}
use Rattle.jsonptr_run_command.specs.Operations.{words_of}
use Rattle.jsonptr_run_command.specs.PrivateOperations.{texts_of}
use Rattle.jsonptr_run_command.proofs.operations.split_words.Given as goal

abbrev pub invariant-loop-rest : goal.invariant-loop-rest
invariant-loop-rest l = map string_bytes l.words ≡ words_of (map texts_of l.operations.items) ++ map string_bytes l.rest

abbrev pub decreases-loop-rest : goal.decreases-loop-rest
decreases-loop-rest l = length l.rest
