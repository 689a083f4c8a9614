use Rattle.std.proofs.Common.{List, refl, sym, subst}
use Rattle.serde_json.specs.View.{view}
use Rattle.jsonptr.specs.Text.{Text}
use Rattle.jsonptr.specs.Json.{nodes, FindsValue}
use Rattle.jsonptr.specs.Pointer.{tokens}
use Rattle.jsonptr.specs.Resolve.{Refuses}
use Rattle.jsonptr_session.specs.declared.undo.Undo.TheVariants.{Put}
use Rattle.jsonptr_uses.specs.Undoing.{LeadsBack}
use Rattle.jsonptr_uses.proofs.RemovingLemmas.{above_not_refused, handed_on, parent_leads}
use Rattle.jsonptr_uses.proofs.editor.undo_of_removal.Goals as goal

pub returns-in_err-resolve-clause-refused : goal.returns-in_err-resolve-clause-refused
returns-in_err-resolve-clause-refused c =
    let n = nodes (view c.args.document.now) in
    let ts = tokens c.args.pointer in
    let us = tokens c.above-parent_pointer.result in
    let found : FindsValue (view c.args.document.now) ts (view c.in_ok-_value._value.now) = c.in_ok-_value.ensures.found in
    handed_on c.from_residual-in_err-resolve.result c.resolve-2.result c.in_err-resolve.field-0.0 (Refuses n ts) (Refuses n us)
    (λ e why. above_not_refused n ts us found.path e c.above-parent_pointer.ensures found.named why)
    c.in_err-resolve.was c.resolve-2.ensures.refused c.from_residual-in_err-resolve.ensures.1

pub returns-clause-named : goal.returns-clause-named
returns-clause-named c =
    let found : FindsValue (view c.args.document.now) (tokens c.args.pointer) (view c.in_ok-_value._value.now) = c.in_ok-_value.ensures.found in
    (found.path, found.named)

pub returns-clause-leads : goal.returns-clause-leads
returns-clause-leads c = λ left order gone.
    let found : FindsValue (view c.args.document.now) (tokens c.args.pointer) (view c.in_ok-_value._value.now) = c.in_ok-_value.ensures.found in
    subst (λ (l : List Text). LeadsBack (view c.args.document.now) (Put l c.in_ok-parent.parent) left) (sym c.in_ok-to_buf.ensures)
    (parent_leads (view c.args.document.now) left (view c.in_ok-resolve.field-0.now) c.in_ok-parent.parent (tokens c.args.pointer) (tokens c.above-parent_pointer.result) found.path c.put_law.ensures.twice c.put_law.ensures.same
    refl c.above-parent_pointer.ensures found.named c.in_ok-resolve.ensures.found c.in_ok-parent.ensures.cases order gone)
