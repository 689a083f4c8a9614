use Rattle.std.proofs.Common.{List, ℕ, string_bytes, sym, subst, ◌∙◌}
use Rattle.std.proofs.lemmas.Result.{err_from_is_err_and}
use Rattle.jptr_tasks.specs.LineResults.{IsReport}
use Rattle.jptr_tasks.proofs.ResultLemmas.{result_stops, line_fault, fault_put, fault_stops}
use Rattle.jptr_tasks.proofs.line.put_line.Goals as goal

pub returns-in_err-put_text-in-Ok-clause-refused : goal.returns-in_err-put_text-in-Ok-clause-refused
returns-in_err-put_text-in-Ok-clause-refused g c =
    let p = err_from_is_err_and c.from_residual-in_err-put_text-in-Ok.result c.from_residual-in_err-put_text-in-Ok.ensures.1 in
    let reported = c.in_err-put_text-in-Ok.ensures.refused in
    rw (p.1, p.2) (result_stops c.args.run.now c.args.line.number c.args.line.bytes.now _ _ _ (string_bytes c.in-Ok.text) _ _ c.in-Ok.ensures.yielded (c.as_str.ensures.value ∙ c.in_ok-text-in-Ok.ensures) reported.0 reported.1)

pub returns-in_err-put_fault-in-Err-clause-refused : goal.returns-in_err-put_fault-in-Err-clause-refused
returns-in_err-put_fault-in-Err-clause-refused g c =
    let p = err_from_is_err_and c.from_residual-in_err-put_fault-in-Err.result c.from_residual-in_err-put_fault-in-Err.ensures.1 in
    let reported = c.in_err-put_fault-in-Err.ensures.refused in
    let name = string_bytes c.args.run.now.name in
    let fault = line_fault c.args.run.now c.args.line.bytes.now c.in-Err.error c.in_ok-error-in-Err.error c.in-Err.ensures.refused c.in_ok-error-in-Err.ensures.reported in
    let named : IsReport name c.args.line.number (string_bytes c.in_ok-report-in-Err.report) = subst (λ (t : List ℕ). IsReport t c.args.line.number (string_bytes c.in_ok-report-in-Err.report)) c.as_str-in-Err.ensures.value c.in_ok-report-in-Err.ensures in
    let report : IsReport name c.args.line.number c.as_str-in-Err-2.result.now = subst (IsReport name c.args.line.number) (sym c.as_str-in-Err-2.ensures.value) named in
    rw (p.1, p.2) (fault_stops c.args.run.now c.args.line.number c.args.line.bytes.now _ _ _ _ c.in_ok-error-in-Err.error c.as_str-in-Err-2.result.now _ fault (c.are_blank.ensures.filled c.if-are_blank.false) report reported.0 reported.1 reported.2)

pub returns-in_ok-put_fault-in-Err-clause-written : goal.returns-in_ok-put_fault-in-Err-clause-written
returns-in_ok-put_fault-in-Err-clause-written g c =
    let reported = c.in_ok-put_fault-in-Err.ensures.written in
    let name = string_bytes c.args.run.now.name in
    let fault = line_fault c.args.run.now c.args.line.bytes.now c.in-Err.error c.in_ok-error-in-Err.error c.in-Err.ensures.refused c.in_ok-error-in-Err.ensures.reported in
    let named : IsReport name c.args.line.number (string_bytes c.in_ok-report-in-Err.report) = subst (λ (t : List ℕ). IsReport t c.args.line.number (string_bytes c.in_ok-report-in-Err.report)) c.as_str-in-Err.ensures.value c.in_ok-report-in-Err.ensures in
    let report : IsReport name c.args.line.number c.as_str-in-Err-2.result.now = subst (IsReport name c.args.line.number) (sym c.as_str-in-Err-2.ensures.value) named in
    fault_put c.args.run.now c.args.line.number c.args.line.bytes.now _ _ _ _ c.in_ok-error-in-Err.error c.as_str-in-Err-2.result.now fault (c.are_blank.ensures.filled c.if-are_blank.false) report reported.0 reported.1
