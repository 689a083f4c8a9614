use Rattle.jsonptr.specs.Json.{nodes}
use Rattle.jsonptr.specs.Pointer.{tokens}
use Rattle.jsonptr.proofs.Calling.{Refuses-NamesNothing}
use Rattle.serde_json.specs.View.{view}
use Rattle.jsonptr_patch.proofs.ApartnessLemmas.{exact_false, not_object}
use Rattle.jsonptr_patch.proofs.apart.resolves_to_object.Goals as goal

pub returns-in-Array : goal.returns-in-Array
returns-in-Array c = exact_false _ (not_object (view c.args.document.now) (view c.in-Ok.value.now) (tokens c.args.pointer) _ c.in-Ok.ensures.found c.in-Array.ensures.0 (λ e. let no : ⊥ = cc in no))

pub returns-in-Leaf : goal.returns-in-Leaf
returns-in-Leaf c = exact_false _ (not_object (view c.args.document.now) (view c.in-Ok.value.now) (tokens c.args.pointer) _ c.in-Ok.ensures.found c.in-Leaf.ensures.1 (λ e. let no : ⊥ = cc in no))

pub returns-in-Err-Refused : goal.returns-in-Err-Refused
returns-in-Err-Refused c =
    let refused = rw c.in-Err-Refused.field-0-is at c.in-Err-Refused.ensures.refused in
    exact_false _ (λ o. Refuses-NamesNothing (nodes (view c.args.document.now)) (tokens c.args.pointer) c.in-Err-Refused.field-0-0 refused o.0 o.1)
