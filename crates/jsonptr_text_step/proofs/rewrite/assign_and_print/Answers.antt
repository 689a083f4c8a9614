use Rattle.std.proofs.Common.{rules}
use Rattle.serde_json.specs.View.{view}
use Rattle.jsonptr.specs.Assign.{RefusesAssign}
use Rattle.jsonptr.specs.Json.{nodes}
use Rattle.jsonptr.specs.Pointer.{tokens}
use Rattle.jsonptr_text_step.specs.EditInText.{IsAssignError}
use Rattle.jsonptr_text_step.specs.declared.stepped.StepError.TheVariants.{Refused}
use Rattle.jsonptr_text_step.proofs.RewritingLemmas.{refused_whole, assigned_then, assign_fails_then}
use Rattle.jsonptr_text_step.proofs.rewrite.assign_and_print.Goals as goal

pub returns-in-Ok-clause-assigned : goal.returns-in-Ok-clause-assigned
returns-in-Ok-clause-assigned c =
    assigned_then c.args.text.now (tokens c.args.pointer) (tokens c.shortened.result) (view c.in_ok-document.document) (view c.assign.new.self) (view c.args.value) _ c.print_document.result
    c.in_ok-document.ensures.value c.shortened.ensures c.in-Ok.ensures.assigned.assigned c.print_document.ensures.printed

pub returns-in-Ok-clause-refused : goal.returns-in-Ok-clause-refused
returns-in-Ok-clause-refused c =
    assign_fails_then c.args.text.now (tokens c.args.pointer) (tokens c.shortened.result) (view c.in_ok-document.document) (view c.assign.new.self) (view c.args.value) _ c.print_document.result
    c.in_ok-document.ensures.value c.shortened.ensures c.in-Ok.ensures.assigned.assigned
    (λ s. c.in-Ok.ensures.sorted s c.in_ok-document.ensures.sorted)
    c.print_document.ensures.refused

pub returns-in-Err-Refused-clause-refused : goal.returns-in-Err-Refused-clause-refused
returns-in-Err-Refused-clause-refused c =
    let refused : RefusesAssign (nodes (view c.in_ok-document.document)) (tokens c.shortened.result) c.in-Err-Refused.error = rw c.in-Err-Refused.field-0-is at c.in-Err-Refused.ensures.refused in
    let whole : IsAssignError c.args.text.now (tokens c.args.pointer) (view c.args.value) (Refused c.in-Err-Refused.error) = refused_whole c.args.text.now (tokens c.args.pointer) (tokens c.shortened.result) (view c.in_ok-document.document) (view c.args.value) c.in-Err-Refused.error c.in_ok-document.ensures.value c.shortened.ensures refused in
    (whole.0, whole.1, search (rules, whole.2, c.in-Err-Refused.field-0-is))
