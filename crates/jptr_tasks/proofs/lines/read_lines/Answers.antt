use Rattle.std.proofs.Common.{◌∙◌, sym}
use Rattle.std.proofs.lemmas.Result.{err_from_is_err_and}
use Rattle.jptr_tasks.specs.declared.task_error.TaskError.TheVariants.{Read}
use Rattle.jptr_tasks.proofs.RunLemmas.{step, end_run, last_run, stop_run, fail, give_up, stops_so, goes_on}
use Rattle.jptr_tasks.proofs.lines.read_lines.Goals as goal

pub returns-in_err-take_turn-clause-refused : goal.returns-in_err-take_turn-clause-refused
returns-in_err-take_turn-clause-refused g c =
    let p = err_from_is_err_and c.from_residual.result c.from_residual.ensures.1 in
    rw (p.1, p.2) (fail _ _ _ _ _ _ _ _ _ c.loop-number.invariant _ _ _ _ c.in_err-take_turn.ensures.refused)

pub returns-in-NoLine-clause-written : goal.returns-in-NoLine-clause-written
returns-in-NoLine-clause-written g c =
    let turn = rw c.in-NoLine.is at c.in_ok-take_turn.ensures.written in
    rw c.end_of.ensures (end_run _ _ _ _ _ _ _ _ _ c.loop-number.invariant (g.R.Read.remaining c.take_turn.new.input) _ _ turn)

pub returns-in-LastLine-clause-written : goal.returns-in-LastLine-clause-written
returns-in-LastLine-clause-written g c =
    let turn = rw c.in-LastLine.is at c.in_ok-take_turn.ensures.written in
    rw (c.end_of-in-LastLine.ensures, c.both.ensures) (last_run _ _ _ _ _ _ _ _ _ c.loop-number.invariant _ _ _ c.in-LastLine.is_last_fine turn)

pub returns-then-stops-clause-written : goal.returns-then-stops-clause-written
returns-then-stops-clause-written g c =
    let so = stops_so c.args.run.now.is_strict c.in-Line.is_next_fine (sym c.stops.ensures ∙ c.if-stops.true) in
    let turn = rw (c.in-Line.is, so.1) at c.in_ok-take_turn.ensures.written in
    stop_run _ _ _ _ _ _ _ _ _ c.loop-number.invariant _ _ _ so.0 turn

pub loop-number-preserved : goal.loop-number-preserved
loop-number-preserved g c =
    let turn = rw c.in-Line.is at c.in_ok-take_turn.ensures.written in
    let p = c.loop-number.invariant in
    let strict = goes_on c.args.run.now.is_strict c.loop-number.is_fine c.in-Line.is_next_fine (sym c.stops.ensures ∙ c.if-stops.false) p.strict in
    rw c.both-is_fine.ensures (step _ _ _ _ _ _ _ _ _ p _ _ _ c.in-Line.is_next_fine strict turn)

pub returns-clause-refused : goal.returns-clause-refused
returns-clause-refused g c = give_up _ _ _ _ _ _ _ _ _ c.loop-number.invariant Read tt
