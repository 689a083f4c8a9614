use Rattle.jsonptr_patch.proofs.LaterLemmas.{now_applied, now_refused, waits_applied, waits_refused}
use Rattle.jsonptr_patch.proofs.OperatingLemmas.{ok_all, refused_all}
use Rattle.jsonptr_patch.proofs.later.record_apart.Goals as goal

pub returns-then-can_wait-clause-applied : goal.returns-then-can_wait-clause-applied
returns-then-can_wait-clause-applied c = ok_all c.wait.result _ _
    (λ h n p.
    let r = h n p in
    (r.0, waits_applied c.args.turn.comparison c.args.document.now n r.0 c.args.operation (c.can_wait.ensures c.if-can_wait.true) r.1, r.2))
    c.wait.ensures.applied

pub returns-then-can_wait-clause-refused : goal.returns-then-can_wait-clause-refused
returns-then-can_wait-clause-refused c = refused_all c.wait.result _ _
    (λ e r n p. waits_refused c.args.turn.comparison c.args.document.now n c.args.turn.number c.args.operation e (c.can_wait.ensures c.if-can_wait.true) (r n p))
    c.wait.ensures.refused

pub returns-clause-applied : goal.returns-clause-applied
returns-clause-applied c = ok_all c.record.result _ _ (now_applied c.args.turn.comparison c.args.document.now c.record.new.document c.args.operation c.args.run.now.later.items c.requires.apart) c.record.ensures.applied

pub returns-clause-refused : goal.returns-clause-refused
returns-clause-refused c = refused_all c.record.result _ _ (now_refused c.args.turn.comparison c.args.document.now c.args.turn.number c.args.operation c.args.run.now.later.items c.requires.apart) c.record.ensures.refused
