use Rattle.std.proofs.Common.{subst}
use Rattle.jsonptr.specs.Node.{NodeMap}
use Rattle.jsonptr_walk.proofs.FollowLemmas.{refused_on}
use Rattle.jsonptr_patch.specs.Operating.{AppliesBy}
use Rattle.jsonptr_patch.proofs.LaterLemmas.{now_applied, now_refused}
use Rattle.jsonptr_patch.proofs.patch.finish.Goals as goal

pub unlink-requires : goal.unlink-requires
unlink-requires c =
    let s = c.in_ok-settle.ensures.there c.requires.pending.0 c.requires.pending.1 in
    let r = now_applied c.args.turn.comparison c.settle.new.document c.apply_last.new.document c.args.last c.settle.new.run.later.items c.in_ok-settle.ensures.apart c.in_ok-apply_last.ensures.applied s.0 s.1 in
    (r.0, r.2)

pub returns-clause-applied : goal.returns-clause-applied
returns-clause-applied c = λ n p.
    let s = c.in_ok-settle.ensures.there n p in
    let r = now_applied c.args.turn.comparison c.settle.new.document c.apply_last.new.document c.args.last c.settle.new.run.later.items c.in_ok-settle.ensures.apart c.in_ok-apply_last.ensures.applied s.0 s.1 in
    subst (λ (m : NodeMap). AppliesBy c.args.turn.comparison n c.args.last m) (c.unlink.ensures.same r.0 r.2) (s.2.applied c.args.turn.comparison r.0 r.1)

pub returns-in_err-apply_last-clause-refused : goal.returns-in_err-apply_last-clause-refused
returns-in_err-apply_last-clause-refused c = refused_on (Unit {0}) _ c.in_err-apply_last.field-0.0 _ _
    (λ e r n p.
    let s = c.in_ok-settle.ensures.there n p in
    s.2.refused c.args.turn.comparison c.args.turn.number e (now_refused c.args.turn.comparison c.settle.new.document c.args.turn.number c.args.last c.settle.new.run.later.items c.in_ok-settle.ensures.apart e r s.0 s.1))
    c.in_err-apply_last.ensures.refused c.from_residual-in_err-apply_last.ensures.1
