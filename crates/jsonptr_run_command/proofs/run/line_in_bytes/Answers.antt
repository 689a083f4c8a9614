use Rattle.std.proofs.Common.{refl}
use Rattle.std.proofs.lemmas.Result.{err_from_is_err_and}
use Rattle.serde_json.specs.View.{view}
use Rattle.jsonptr.specs.Pointer.{tokens}
use Rattle.jsonptr_run_command.proofs.AnswerLemmas.{found_given, error_given}
use Rattle.jsonptr_run_command.proofs.run.line_in_bytes.Goals as goal

pub returns-in_err-found-clause-refused : goal.returns-in_err-found-clause-refused
returns-in_err-found-clause-refused c =
    let p = err_from_is_err_and c.from_residual.result c.from_residual.ensures.1 in
    rw (p.1, p.2) (error_given c.args.bytes.now (tokens c.args.pointer) _ c.in_err-found.ensures.refused)

pub returns-clause-line : goal.returns-clause-line
returns-clause-line c =
    (view c.in_ok-found.found, found_given c.args.bytes.now (tokens c.args.pointer) (view c.in_ok-found.found) c.in_ok-found.ensures.found, c.in_ok-line.ensures)

pub returns-clause-value : goal.returns-clause-value
returns-clause-value c =
    (view c.in_ok-found.found, refl, found_given c.args.bytes.now (tokens c.args.pointer) (view c.in_ok-found.found) c.in_ok-found.ensures.found)
