use Rattle.std.proofs.Common.{inl, inr, refl, sym, subst}
use Rattle.std.proofs.lemmas.Result.{IfErr-weaker, IfOk-weaker}
use Rattle.jsonptr_c_calls.specs.TextHandle.{HoldsText}
use Rattle.jsonptr_c_calls.proofs.text_calls.patch.Goals as goal

pub returns-clause-edited : goal.returns-clause-edited
returns-clause-edited c =
    let t = c.deref_mut.result.now in
    let held : HoldsText c.args.text.now t = subst (HoldsText c.args.text.now) (sym c.deref_mut.ensures.value) c.in-Some.ensures.taken in
    let given = c.in_ok-given.given in
    IfOk-weaker c.patch-outcome.result _ _
    (λ change h. (t, _, held, c.put.ensures, (h.0, (given, c.in_ok-given.ensures.patch, h.1), h.2))) c.patch-outcome.ensures.edited

pub returns-clause-refused : goal.returns-clause-refused
returns-clause-refused c =
    let t = c.deref_mut.result.now in
    let held : HoldsText c.args.text.now t = subst (HoldsText c.args.text.now) (sym c.deref_mut.ensures.value) c.in-Some.ensures.taken in
    let given = c.in_ok-given.given in
    IfErr-weaker c.patch-outcome.result _ _
    (λ e h. inr (given, c.in_ok-given.ensures.utf8, c.in_ok-given.ensures.patch, inr (t, held, h))) c.patch-outcome.ensures.refused

pub returns-in_default-clause-refused : goal.returns-in_default-clause-refused
returns-in_default-clause-refused c =
    inr (c.in_ok-given.given, c.in_ok-given.ensures.utf8, c.in_ok-given.ensures.patch, inl (refl, c.in_default.ensures.taken))
