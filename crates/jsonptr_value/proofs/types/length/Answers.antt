use Rattle.std.proofs.Common.{Some, sym, ap, ◌∙◌}
use Rattle.serde_json.specs.View.{view}
use Rattle.serde_json.proofs.Views.{view-Array, view-Object, items_len-items_view, members_len-members_view}
use Rattle.jsonptr_value.specs.NodeTypes.{length_of}
use Rattle.jsonptr_value.proofs.types.length.Goals as goal

pub returns-in-Array : goal.returns-in-Array
returns-in-Array c =
    let elements = c.in-Array.elements in
    ap Some (c.len.ensures ∙ elements.ok.0 ∙ sym (items_len-items_view elements.items)) ∙ sym (ap length_of (view-Array elements)) ∙ sym (ap (λ v. length_of (view v)) c.in-Array.is)

pub returns-in-Object : goal.returns-in-Object
returns-in-Object c =
    let members = c.in-Object.members in
    ap Some (c.len-in-Object.ensures.len ∙ sym (members_len-members_view members.entries)) ∙ sym (ap length_of (view-Object members)) ∙ sym (ap (λ v. length_of (view v)) c.in-Object.is)
