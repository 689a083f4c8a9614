use Rattle.std.proofs.Common.{inl, inr, List, ℕ, sym, subst}
use Rattle.serde_json.specs.View.{view}
use Rattle.jsonptr_c_calls.specs.Handle.{Holds}
use Rattle.jsonptr_c_calls.specs.Patches.{IsInverseText}
use Rattle.jsonptr_c_calls.proofs.CopyLemmas.{if_err, if_ok_held}
use Rattle.jsonptr_c_calls.proofs.NestingLemmas.{all_sorted, bounded-patch}
use Rattle.jsonptr_c_calls.proofs.documents.patch_with_inverse.Goals as goal

pub returns-in-Ok-clause-applied : goal.returns-in-Ok-clause-applied
returns-in-Ok-clause-applied c =
    let value = c.deref.result.now in
    let made = c.in-Ok.made in
    let held : Holds c.args.document.now value = subst (Holds c.args.document.now) (sym c.deref.ensures) c.in-Some.ensures.taken in
    if_ok_held c.put_patched.result _ _ _
    (λ n copied kept. (
      value,
      made.document,
      held,
      kept,
      (
        (c.in_ok-operations.operations.items, c.in_ok-operations.ensures.read, c.in-Ok.ensures.shallow, c.in-Ok.ensures.applied),
        (
          c.in_ok-operations.operations.items,
          c.in_ok-operations.ensures.read,
          subst (λ (out : List ℕ). IsInverseText c.args.format (view value) c.in_ok-operations.operations.items (view made.document) out) (sym copied) c.in-Ok.ensures.inverse,
        ),
      ),
    ))
    c.put_patched.ensures.copied c.put_patched.ensures.replaced

pub returns-in-Ok-clause-bounded : goal.returns-in-Ok-clause-bounded
returns-in-Ok-clause-bounded c =
    let value = c.deref.result.now in
    let made = c.in-Ok.made in
    let held : Holds c.args.document.now value = subst (Holds c.args.document.now) (sym c.deref.ensures) c.in-Some.ensures.taken in
    let operations = c.in_ok-operations.operations.items in
    let parsed = c.in_ok-operations.ensures.parsed in
    if_ok_held c.put_patched.result _ _ _
    (λ n copied kept. (
      value,
      made.document,
      held,
      kept,
      λ bounded. bounded-patch _ _ operations c.in-Ok.ensures.applied c.in-Ok.ensures.shallow parsed bounded (c.in-Ok.ensures.sorted (all_sorted operations parsed) bounded.0),
    ))
    c.put_patched.ensures.copied c.put_patched.ensures.replaced

pub returns-in-Ok-clause-refused : goal.returns-in-Ok-clause-refused
returns-in-Ok-clause-refused c =
    let value = c.deref.result.now in
    let made = c.in-Ok.made in
    let held : Holds c.args.document.now value = subst (Holds c.args.document.now) (sym c.deref.ensures) c.in-Some.ensures.taken in
    if_err c.put_patched.result _ _ c.put_patched.ensures.refused
    (λ e lacks. inr (
      c.in_ok-operations.operations.items,
      c.in_ok-operations.ensures.utf8,
      c.in_ok-operations.ensures.read,
      inr (
        value,
        held,
        inr (view made.document, made.inverse.items, c.in-Ok.ensures.shallow, c.in-Ok.ensures.applied, c.in-Ok.ensures.inverse, lacks),
      ),
    ))

pub returns-in-Err-clause-refused : goal.returns-in-Err-clause-refused
returns-in-Err-clause-refused c =
    let held : Holds c.args.document.now c.deref.result.now = subst (Holds c.args.document.now) (sym c.deref.ensures) c.in-Some.ensures.taken in
    inr (
      c.in_ok-operations.operations.items,
      c.in_ok-operations.ensures.utf8,
      c.in_ok-operations.ensures.read,
      inr (c.deref.result.now, held, inl c.in-Err.ensures.refused),
    )
