use Rattle.std.proofs.Common.{inr, sym, subst}
use Rattle.jsonptr_c_calls.specs.Handle.{Holds}
use Rattle.jsonptr_c_calls.proofs.CopyLemmas.{if_err}
use Rattle.jsonptr_c_calls.proofs.documents.diff.Goals as goal

pub returns-clause-refused : goal.returns-clause-refused
returns-clause-refused c =
    let held : Holds c.args.old.now c.deref.result.now = subst (Holds c.args.old.now) (sym c.deref.ensures) c.in-Some.ensures.taken in
    if_err c.diff_with-written.result _ _ c.diff_with-written.ensures.refused (λ e h. inr (c.deref.result.now, held, h))
