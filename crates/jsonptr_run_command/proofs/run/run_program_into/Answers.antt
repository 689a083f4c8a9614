use Rattle.std.proofs.Common.{ℕ, List, map, string_bytes, option_map, subst}
use Rattle.std.proofs.lemmas.Result.{err_from_is_err_and}
use Rattle.serde_json.specs.View.{view}
use Rattle.jsonptr_run_command.specs.Private.{request_of}
use Rattle.jsonptr_run_command.specs.Run.{ForRequest, HasValueOf, NeedsInput}
use Rattle.jsonptr_run_command.proofs.AnswerLemmas.{leaves_more}
use Rattle.jsonptr_run_command.proofs.RunLaw.{request_one}
use Rattle.jsonptr_run_command.proofs.run.run_program_into.Goals as goal

pub returns-in_err-line-clause-left : goal.returns-in_err-line-clause-left
returns-in_err-line-clause-left g c =
    let p = err_from_is_err_and c.from_residual-in_err-line.result c.from_residual-in_err-line.ensures.1 in
    let value = option_map view c.line_of.new.value in
    let request = request_of c.in_ok-request.request in
    rw (p.1, p.2) (leaves_more (g.R.Read.remaining c.args.input.now)
    (λ (bytes : List ℕ). HasValueOf request bytes value)
    (λ (bytes : List ℕ). ForRequest (map string_bytes c.args.words.now) (λ asked. HasValueOf asked bytes value))
    (λ bytes h. (request, c.in_ok-request.ensures.asked, h)) (option_map view c.args.value.now) value _ c.in_err-line.ensures.left)

pub returns-in_err-write_and_flush-clause-value_written : goal.returns-in_err-write_and_flush-clause-value_written
returns-in_err-write_and_flush-clause-value_written g c = λ is. (request_of c.in_ok-request.request, c.in_ok-request.ensures.asked, c.in_ok-line.ensures.value)

pub returns-clause-value : goal.returns-clause-value
returns-clause-value g c = λ needs.
    let request = request_of c.in_ok-request.request in
    let same = request_one (map string_bytes c.args.words.now) needs.0 request needs.1 c.in_ok-request.ensures.asked in
    (request, c.in_ok-request.ensures.asked, c.in_ok-line.ensures.value (subst NeedsInput same needs.2))
