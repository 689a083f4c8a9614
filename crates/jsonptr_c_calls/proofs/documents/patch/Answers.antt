use Rattle.std.proofs.Common.{sym, subst}
use Rattle.jsonptr_c_calls.specs.Handle.{Holds}
use Rattle.jsonptr_c_calls.proofs.BoundLemmas.{if_ok_three}
use Rattle.jsonptr_c_calls.proofs.NestingLemmas.{all_sorted, bounded-patch}
use Rattle.jsonptr_c_calls.proofs.documents.patch.Goals as goal

pub returns-clause-bounded : goal.returns-clause-bounded
returns-clause-bounded c =
    let held : Holds c.args.document.now c.deref_mut.result.now = subst (Holds c.args.document.now) (sym c.deref_mut.ensures.value) c.in-Some.ensures.taken in
    let operations = c.in_ok-operations.operations.items in
    let parsed = c.in_ok-operations.ensures.parsed in
    if_ok_three c.apply_all-outcome.result _ _ _ _
    (λ done applied sorted shallow. (
      c.deref_mut.result.now,
      _,
      held,
      c.put.ensures,
      λ bounded. bounded-patch _ _ operations applied shallow parsed bounded (sorted (all_sorted operations parsed) bounded.0),
    ))
    c.apply_all-outcome.ensures.applied c.apply_all-outcome.ensures.sorted c.apply_all-outcome.ensures.shallow
