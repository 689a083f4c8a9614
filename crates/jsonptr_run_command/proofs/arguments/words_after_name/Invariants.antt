-- The words so far are the arguments so far.
use Rattle.std.proofs.Common.{◌≡◌, ◌++◌}
use Rattle.std.specs.Vec.Iter.{into_iter_items}
use Rattle.jsonptr_run_command.proofs.arguments.words_after_name.Given as goal

abbrev pub invariant-loop-word : goal.invariant-loop-word
invariant-loop-word l =
    (l.yielded ++ into_iter_items l.word-iterator ≡ into_iter_items l.initial.word-iterator)
    × (l.words.items ≡ l.yielded)
