use Rattle.std.proofs.Common.{inr, sym, subst}
use Rattle.std.proofs.lemmas.Result.{IfErr-weaker}
use Rattle.jsonptr_c_calls.specs.TextHandle.{HoldsText}
use Rattle.jsonptr_c_calls.proofs.OpenTextLemmas.{on_ok}
use Rattle.jsonptr_c_calls.proofs.text_calls.remove_comments.Goals as goal

pub returns-clause-removed : goal.returns-clause-removed
returns-clause-removed c =
    let t = c.deref_mut.result.now in
    let held : HoldsText c.args.text.now t = subst (HoldsText c.args.text.now) (sym c.deref_mut.ensures.value) c.in-Some.ensures.taken in
    on_ok c.remove_comments-outcome.result _ _ (λ h. (t, _, held, c.put.ensures, h)) c.remove_comments-outcome.ensures.removed

pub returns-clause-refused : goal.returns-clause-refused
returns-clause-refused c =
    let t = c.deref_mut.result.now in
    let held : HoldsText c.args.text.now t = subst (HoldsText c.args.text.now) (sym c.deref_mut.ensures.value) c.in-Some.ensures.taken in
    IfErr-weaker c.remove_comments-outcome.result _ _ (λ e h. inr (t, held, h)) c.remove_comments-outcome.ensures.refused
