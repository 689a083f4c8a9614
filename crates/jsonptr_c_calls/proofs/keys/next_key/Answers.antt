use Rattle.std.proofs.Common.{◌≡◌, ◌∙◌, List, ℕ, IfErr, Result, Ok, Err, inr, string_bytes, sym, subst, length}
use Rattle.serde_json.specs.View.{view}
use Rattle.jsonptr_c_calls.specs.Handle.{Holds}
use Rattle.jsonptr_c_calls.specs.Keys.{LacksNextKey}
use Rattle.jsonptr_c_calls.proofs.keys.next_key.Goals as goal

if_err : {A E : Type 0} (r : Result A E) (P Q : E → Type 0) → ((e : E) → P e → Q e) → IfErr r P → IfErr r Q
if_err (Ok a) P Q f h = tt
if_err (Err e) P Q f h = f e h

pub returns-clause-refused : goal.returns-clause-refused
returns-clause-refused c =
    let held : Holds c.args.document.now c.deref.result.now = subst (Holds c.args.document.now) (sym c.deref.ensures) c.in-Some.ensures.taken in
    let bytes : string_bytes c.in_ok-after.after ≡ c.args.key.now = c.in_ok-after.ensures.ok ∙ c.in_ok-text_of.ensures.text in
    if_err c.copy_next-found.result _ _
    (λ e lacks. inr (inr (
      c.in_ok-text_of.ensures.utf8,
      inr (
        c.deref.result.now,
        held,
        subst (λ (k : List ℕ). LacksNextKey (view c.deref.result.now) c.args.pointer.now k (length c.args.out.now) e) bytes lacks,
      ),
    )))
    c.copy_next-found.ensures.refused
