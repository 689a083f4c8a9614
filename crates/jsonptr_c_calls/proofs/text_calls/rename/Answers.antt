use Rattle.std.proofs.Common.{inr, sym, subst}
use Rattle.std.proofs.lemmas.Result.{IfErr-weaker, IfOk-weaker}
use Rattle.jsonptr_c_calls.specs.TextHandle.{HoldsText}
use Rattle.jsonptr.specs.Text.{Text}
use Rattle.jsonptr_c_calls.specs.OpenTexts.{IsNotAt, Renames}
use Rattle.jsonptr_c_calls.proofs.text_calls.rename.Goals as goal

pub returns-clause-edited : goal.returns-clause-edited
returns-clause-edited c =
    let t = c.deref_mut.result.now in
    let held : HoldsText c.args.text.now t = subst (HoldsText c.args.text.now) (sym c.deref_mut.ensures.value) c.in-Some.ensures.taken in
    let key = c.in_ok-key.ensures.text in
    IfOk-weaker c.rename-outcome.result _ _
    (λ change h. (t, _, held, c.put.ensures, (h.0, subst (λ (k : Text). Renames c.args.pointer.now k h.0) key h.1, h.2)))
    c.rename-outcome.ensures.edited

pub returns-clause-refused : goal.returns-clause-refused
returns-clause-refused c =
    let t = c.deref_mut.result.now in
    let held : HoldsText c.args.text.now t = subst (HoldsText c.args.text.now) (sym c.deref_mut.ensures.value) c.in-Some.ensures.taken in
    let key = c.in_ok-key.ensures.text in
    IfErr-weaker c.rename-outcome.result _ _
    (λ e h. inr (
      c.in_ok-key.ensures.utf8,
      inr (t, held, subst (λ (k : Text). IsNotAt c.args.may_reformat t c.args.pointer.now (Renames c.args.pointer.now k) e) key h),
    ))
    c.rename-outcome.ensures.refused
