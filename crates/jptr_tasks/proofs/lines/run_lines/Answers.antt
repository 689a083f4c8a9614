use Rattle.std.proofs.lemmas.Result.{err_from_is_err_and}
use Rattle.jptr_tasks.proofs.RunLemmas.{run_kept, flush_stops}
use Rattle.jptr_tasks.proofs.lines.run_lines.Goals as goal

pub returns-in_err-flushed-clause-refused : goal.returns-in_err-flushed-clause-refused
returns-in_err-flushed-clause-refused g c =
    let p = err_from_is_err_and c.from_residual-in_err-flushed.result c.from_residual-in_err-flushed.ensures.1 in
    let out = g.W.Write.contents in
    let err = g.E.Write.contents in
    rw (p.1, p.2)
    (flush_stops c.args.run.now (g.R.Read.remaining c.args.input.now)
    (out c.args.output.now) (out c.read_lines-outcome.new.output) (out c.flush_both-flushed.new.output)
    (err c.args.errors.now) (err c.read_lines-outcome.new.errors) (err c.flush_both-flushed.new.errors)
    c.flush_both-flushed.ensures.output c.flush_both-flushed.ensures.errors c.in_ok-ended.ended _ c.in_ok-ended.ensures.written c.in_err-flushed.ensures.refused)

pub returns-clause-written : goal.returns-clause-written
returns-clause-written g c =
    let out = g.W.Write.contents in
    let err = g.E.Write.contents in
    run_kept c.args.run.now (g.R.Read.remaining c.args.input.now)
    (out c.args.output.now) (out c.read_lines-outcome.new.output) (out c.flush_both-flushed.new.output)
    (err c.args.errors.now) (err c.read_lines-outcome.new.errors) (err c.flush_both-flushed.new.errors)
    c.flush_both-flushed.ensures.output c.flush_both-flushed.ensures.errors c.in_ok-ended.ended c.in_ok-ended.ensures.written
