use Rattle.std.proofs.Common.{◌≡◌, Some, List, ℕ, sym, ◌∙◌, subst}
use Rattle.toml.specs.View.{view}
use Rattle.toml.specs.Parse.{parse_value}
use Rattle.jsonptr.specs.Pointer.{tokens}
use Rattle.jsonptr_toml_edit.proofs.GivingLemmas.{takes_if}
use Rattle.jsonptr_toml_edit.proofs.given.takes_other.Goals as goal

pub returns-in-Ok : goal.returns-in-Ok
returns-in-Ok c = λ reads.
    let assignment = c.args.assignment.now in
    let u = view c.other_value-other.result in
    let other = c.as_str-2.result.now in
    let read : parse_value other ≡ Some u = subst (λ (t : List ℕ). parse_value t ≡ Some u) (c.as_str.ensures.value ∙ sym c.as_str-2.ensures.value) (c.in_ok-is_text_of.ensures c.if-not-branch.false) in
    takes_if assignment.text.now (tokens assignment.pointer) (view assignment.raw.now.value) u (view assignment.document.now) (view c.in_ok-want.want) (view c.assign.new.self) other c.args.cut.now.before.now c.args.cut.now.after.now c.as_str-in-Ok.result.now _ c.is_document_of.result
    c.other_value-other.ensures
    read
    (c.as_str-in-Ok.ensures.value ∙ c.in_ok-whole.ensures)
    reads
    c.in_ok-want.ensures.cases
    c.in-Ok.ensures.assigned.assigned
    c.is_document_of.ensures
