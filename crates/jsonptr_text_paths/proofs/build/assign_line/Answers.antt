use Rattle.std.proofs.Common.{List, sym, subst}
use Rattle.serde_json.specs.View.{view}
use Rattle.jsonptr.specs.Assign.{RefusesAssign}
use Rattle.jsonptr.specs.Json.{nodes}
use Rattle.jsonptr.specs.Pointer.{tokens}
use Rattle.jsonptr.specs.Text.{Text}
use Rattle.jsonptr_text_paths.specs.Building.{FitsDepth}
use Rattle.jsonptr_text_paths.proofs.BuildingLemmas.{readable_more}
use Rattle.jsonptr_text_paths.proofs.build.assign_line.Goals as goal

pub returns-in-Err-Refused-clause-refused : goal.returns-in-Err-Refused-clause-refused
returns-in-Err-Refused-clause-refused c =
    let refused : RefusesAssign (nodes (view c.args.document.now)) (tokens c.as_ptr-2.result) c.in-Err-Refused.error = rw c.in-Err-Refused.field-0-is at c.in-Err-Refused.ensures.refused in
    let fits : FitsDepth (tokens c.as_ptr.result) (view c.in_ok-value.value) = c.fits.ensures.0 c.if-not-fits.false in (
      c.in_ok-pointer.pointer,
      view c.in_ok-value.value,
      (c.in-Some.field.now, c.in-Some.json.now, c.in-Some.ensures, c.in_ok-pointer.ensures.pointer, c.in_ok-value.ensures.value),
      subst (λ (ts : List Text). FitsDepth ts (view c.in_ok-value.value)) c.as_ptr.ensures.tokens fits,
      subst (λ (ts : List Text). RefusesAssign (nodes (view c.args.document.now)) ts c.in-Err-Refused.error) c.as_ptr-2.ensures.tokens refused,
    )

pub returns-in-Ok-clause-readable : goal.returns-in-Ok-clause-readable
returns-in-Ok-clause-readable c h =
    let fits : FitsDepth (tokens c.as_ptr.result) (view c.in_ok-value.value) = c.fits.ensures.0 c.if-not-fits.false in
    let same : FitsDepth c.in_ok-pointer.pointer (view c.in_ok-value.value) = subst (λ (ts : List Text). FitsDepth ts (view c.in_ok-value.value)) c.as_ptr.ensures.tokens fits in
    readable_more (nodes (view c.args.document.now)) _ (tokens c.as_ptr-2.result) (view c.in_ok-value.value) _
    c.in-Ok.ensures.assigned.assigned
    (subst (λ (ts : List Text). FitsDepth ts (view c.in_ok-value.value)) (sym c.as_ptr-2.ensures.tokens) same)
    h
