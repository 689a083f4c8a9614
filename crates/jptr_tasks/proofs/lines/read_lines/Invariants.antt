-- What is known after the lines before the one with this number.
use Rattle.jptr_tasks.specs.PrivateRuns.{RunProgress}
use Rattle.jptr_tasks.proofs.lines.read_lines.Given as goal

abbrev pub invariant-loop-number : goal.invariant-loop-number
invariant-loop-number g l =
    RunProgress l.run l.number l.is_fine
    (g.R.Read.remaining l.initial.input) (g.R.Read.remaining l.input)
    (g.W.Write.contents l.initial.output) (g.W.Write.contents l.output)
    (g.E.Write.contents l.initial.errors) (g.E.Write.contents l.errors)
