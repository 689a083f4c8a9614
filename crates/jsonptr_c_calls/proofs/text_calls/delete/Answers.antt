use Rattle.std.proofs.Common.{inr, sym, subst}
use Rattle.std.proofs.lemmas.Result.{IfErr-weaker, IfOk-weaker}
use Rattle.jsonptr_c_calls.specs.TextHandle.{HoldsText}
use Rattle.jsonptr_c_calls.proofs.OpenTextLemmas.{none_weaker, some_weaker}
use Rattle.jsonptr_c_calls.proofs.text_calls.delete.Goals as goal

pub returns-clause-edited : goal.returns-clause-edited
returns-clause-edited c =
    let t = c.deref_mut.result.now in
    let held : HoldsText c.args.text.now t = subst (HoldsText c.args.text.now) (sym c.deref_mut.ensures.value) c.in-Some.ensures.taken in
    IfOk-weaker c.delete-outcome.result _ _
    (λ o h. some_weaker o _ _ (λ change made. (t, _, held, c.put.ensures, made)) h) c.delete-outcome.ensures.edited

pub returns-clause-nothing : goal.returns-clause-nothing
returns-clause-nothing c =
    let t = c.deref_mut.result.now in
    let held : HoldsText c.args.text.now t = subst (HoldsText c.args.text.now) (sym c.deref_mut.ensures.value) c.in-Some.ensures.taken in
    IfOk-weaker c.delete-outcome.result _ _
    (λ o h. none_weaker o _ _ (λ lacks. (t, _, held, c.put.ensures, lacks)) h) c.delete-outcome.ensures.nothing

pub returns-clause-refused : goal.returns-clause-refused
returns-clause-refused c =
    let t = c.deref_mut.result.now in
    let held : HoldsText c.args.text.now t = subst (HoldsText c.args.text.now) (sym c.deref_mut.ensures.value) c.in-Some.ensures.taken in
    IfErr-weaker c.delete-outcome.result _ _ (λ e h. inr (t, held, h)) c.delete-outcome.ensures.refused
