use Rattle.std.proofs.Common.{sym, subst}
use Rattle.serde_json.specs.View.{view}
use Rattle.jsonptr_c_calls.specs.Handle.{Holds}
use Rattle.jsonptr_c_calls.proofs.BoundLemmas.{if_ok, bounded-assign}
use Rattle.jsonptr_c_calls.proofs.documents.assign_value.Goals as goal

pub returns-clause-bounded : goal.returns-clause-bounded
returns-clause-bounded c =
    let held : Holds c.args.document.now c.deref_mut.result.now = subst (Holds c.args.document.now) (sym c.deref_mut.ensures.value) c.in-Some.ensures.taken in
    if_ok c.assign-outcome.result _ _ _
    (λ done made sorted parsed. (
      c.deref_mut.result.now,
      _,
      held,
      c.put.ensures,
      λ bounded. bounded-assign _ c.args.pointer.now (view c.args.value) _ made parsed bounded (sorted parsed.0 bounded.0),
    ))
    c.assign-outcome.ensures.assigned c.assign-outcome.ensures.sorted
