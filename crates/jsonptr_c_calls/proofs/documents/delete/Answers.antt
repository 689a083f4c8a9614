use Rattle.std.proofs.Common.{Bool, sym, subst}
use Rattle.jsonptr_c_calls.specs.Handle.{Holds}
use Rattle.jsonptr_c_calls.proofs.BoundLemmas.{if_ok, bounded-delete}
use Rattle.jsonptr_c_calls.proofs.documents.delete.Goals as goal

pub returns-clause-bounded : goal.returns-clause-bounded
returns-clause-bounded c =
    let held : Holds c.args.document.now c.deref_mut.result.now = subst (Holds c.args.document.now) (sym c.deref_mut.ensures.value) c.in-Some.ensures.taken in
    if_ok c.delete-outcome.result _ _ _
    (λ (found : Bool) made sorted. (
      c.deref_mut.result.now,
      _,
      held,
      c.put.ensures,
      λ bounded. bounded-delete _ c.args.pointer.now found _ made bounded (sorted bounded.0),
    ))
    c.delete-outcome.ensures.deleted c.delete-outcome.ensures.sorted
