use Rattle.jsonptr_patch.proofs.OperatingLemmas.{ok_all}
use Rattle.jsonptr_patch.proofs.inverse.step.Goals as goal

pub returns-clause-applied : goal.returns-clause-applied
returns-clause-applied c = ok_all c.record_apart.result _ _
    (λ f n p.
    let s = c.in_ok-settle_with_back.ensures.there n p in
    let r = f s.0 s.1 in
    let a = s.2.applied c.args.turn.comparison r.0 r.1 in
    (r.0, a, r.2, c.in_ok-settle_with_back.ensures.back c.args.turn.comparison n r.0 p a))
    c.record_apart.ensures.applied

pub returns-clause-inverse_sorted : goal.returns-clause-inverse_sorted
returns-clause-inverse_sorted c = ok_all c.record_apart.result _ _
    (λ f. c.in_ok-settle_with_back.ensures.inverse_sorted)
    c.record_apart.ensures.applied
