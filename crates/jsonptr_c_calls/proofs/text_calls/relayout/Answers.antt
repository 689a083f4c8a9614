use Rattle.std.proofs.Common.{inr, subst, sym}
use Rattle.std.proofs.lemmas.Result.{IfErr-weaker, IfOk-weaker}
use Rattle.jsonptr.specs.Text.{Text}
use Rattle.jsonptr_c_calls.specs.Relayouts.{IsNotRelaid, IsRelaid}
use Rattle.jsonptr_c_calls.specs.TextHandle.{HoldsText}
use Rattle.jsonptr_c_calls.proofs.text_calls.relayout.Goals as goal

pub returns-clause-relaid : goal.returns-clause-relaid
returns-clause-relaid c =
    let t = c.deref_mut.result.now in
    let held : HoldsText c.args.text.now t = subst (HoldsText c.args.text.now) (sym c.deref_mut.ensures.value) c.in-Some.ensures.taken in
    IfOk-weaker c.relayout-outcome.result _ _
    (λ change h. (t, _, held, c.put.ensures, subst (λ (new : Text). IsRelaid t new c.relayout-outcome.new.self change) c.in_ok-given.ensures.text h))
    c.relayout-outcome.ensures.relaid

pub returns-clause-refused : goal.returns-clause-refused
returns-clause-refused c =
    let t = c.deref_mut.result.now in
    let held : HoldsText c.args.text.now t = subst (HoldsText c.args.text.now) (sym c.deref_mut.ensures.value) c.in-Some.ensures.taken in
    IfErr-weaker c.relayout-outcome.result _ _
    (λ e h. inr (c.in_ok-given.ensures.utf8, inr (t, held, subst (λ (new : Text). IsNotRelaid c.args.may_reformat t new e) c.in_ok-given.ensures.text h)))
    c.relayout-outcome.ensures.refused
