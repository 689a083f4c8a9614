use Rattle.std.proofs.Common.{string_bytes, inr}
use Rattle.std.proofs.lemmas.Result.{IfOk-weaker, IfErr-weaker, err_from_is_err_and, on_ok_weaker}
use Rattle.serde_json.specs.View.{view}
use Rattle.jsonptr_run_command.proofs.AnswerLemmas.{after_document, either_given, line_given, fault_given, input_fault_given, value_given}
use Rattle.jsonptr_run_command.proofs.run.document_line.Goals as goal

pub returns-in_err-document-clause-refused : goal.returns-in_err-document-clause-refused
returns-in_err-document-clause-refused g c =
    let p = err_from_is_err_and c.from_residual.result c.from_residual.ensures.1 in
    rw (p.1, p.2) (input_fault_given c.args.change _ _ c.in_err-document.ensures.refused)

pub returns-clause-line : goal.returns-clause-line
returns-clause-line g c =
    IfOk-weaker c.changed_line-line.result _ _
    (λ line h. line_given c.args.change _ (view c.in_ok-document.document) c.in_ok-document.ensures.value (string_bytes line) h) c.changed_line-line.ensures.line

pub returns-clause-refused : goal.returns-clause-refused
returns-clause-refused g c =
    IfErr-weaker c.changed_line-line.result _ _
    (λ e h. fault_given c.args.change _ (view c.in_ok-document.document) c.in_ok-document.ensures.value e h) c.changed_line-line.ensures.refused

pub returns-clause-value : goal.returns-clause-value
returns-clause-value g c =
    on_ok_weaker c.changed_line-line.result
    (λ h. value_given c.args.change _ (view c.in_ok-document.document) c.in_ok-document.ensures.value _ h) c.changed_line-line.ensures.changed

pub returns-clause-unchanged : goal.returns-clause-unchanged
returns-clause-unchanged g c =
    IfErr-weaker c.changed_line-line.result _ _
    (λ e h before. absurd (after_document c.args.change (view c.in_ok-document.document) e h before)) c.changed_line-line.ensures.refused

pub returns-clause-left : goal.returns-clause-left
returns-clause-left g c =
    IfErr-weaker c.changed_line-line.result _ _
    (λ e h is. inr (either_given c.args.change _ (view c.in_ok-document.document) c.in_ok-document.ensures.value _ c.changed_line-line.ensures.either))
    c.changed_line-line.ensures.refused
