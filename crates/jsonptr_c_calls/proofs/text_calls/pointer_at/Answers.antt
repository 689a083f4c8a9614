use Rattle.std.proofs.Common.{inr, sym, subst}
use Rattle.std.proofs.lemmas.Result.{IfErr-weaker, IfOk-weaker}
use Rattle.jsonptr_c_calls.specs.TextHandle.{HoldsText}
use Rattle.jsonptr_c_calls.proofs.text_calls.pointer_at.Goals as goal

pub returns-clause-pointed : goal.returns-clause-pointed
returns-clause-pointed c =
    let held : HoldsText c.args.text.now c.deref.result.now = subst (HoldsText c.args.text.now) (sym c.deref.ensures) c.in-Some.ensures.taken in
    IfOk-weaker c.pointer_at-copied.result _ _ (λ x h. (c.deref.result.now, held, h)) c.pointer_at-copied.ensures.pointed

pub returns-clause-refused : goal.returns-clause-refused
returns-clause-refused c =
    let held : HoldsText c.args.text.now c.deref.result.now = subst (HoldsText c.args.text.now) (sym c.deref.ensures) c.in-Some.ensures.taken in
    IfErr-weaker c.pointer_at-copied.result _ _ (λ e h. inr (c.deref.result.now, held, h)) c.pointer_at-copied.ensures.refused
