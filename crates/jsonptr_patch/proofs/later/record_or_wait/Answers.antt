use Rattle.jsonptr_patch.proofs.OperatingLemmas.{ok_all}
use Rattle.jsonptr_patch.proofs.later.record_or_wait.Goals as goal

pub returns-clause-applied : goal.returns-clause-applied
returns-clause-applied c = ok_all c.record_apart.result _ _
    (λ h n p.
    let s = c.in_ok-settle.ensures.there n p in
    let r = h s.0 s.1 in
    (r.0, s.2.applied c.args.turn.comparison r.0 r.1, r.2))
    c.record_apart.ensures.applied
