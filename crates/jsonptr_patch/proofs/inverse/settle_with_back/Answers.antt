use Rattle.std.proofs.Common.{List, sym, subst}
use Rattle.serde_json.specs.Data.{Data}
use Rattle.serde_json.specs.View.{view}
use Rattle.jsonptr.specs.Json.{nodes}
use Rattle.jsonptr_patch.specs.PrivateLater.{IsPending}
use Rattle.jsonptr_patch.specs.declared.later.Later.{Later}
use Rattle.jsonptr_patch.proofs.BackLemmas.{change_refused, later_back, freed_back}
use Rattle.jsonptr_patch.proofs.LaterLemmas.{now_refused}
use Rattle.jsonptr_patch.proofs.OperatingLemmas.{ok_all, refused_all}
use Rattle.jsonptr_patch.proofs.WaitingLemmas.{freed_stands, itself}
use Rattle.jsonptr_patch.proofs.inverse.settle_with_back.Goals as goal

pub returns-then-take_place-clause-apart : goal.returns-then-take_place-clause-apart
returns-then-take_place-clause-apart c = c.take_place.ensures.apart c.if-take_place.true

pub returns-then-take_place-clause-there : goal.returns-then-take_place-clause-there
returns-then-take_place-clause-there c = λ n p.
    let r = c.take_place.ensures.frees c.if-take_place.true n p in
    (r.0, r.1, freed_stands c.args.document.now r.0 n c.args.operation.now c.take_place.new.later.items r.1 r.2)

pub returns-then-take_place-clause-back : goal.returns-then-take_place-clause-back
returns-then-take_place-clause-back c = λ by n m p a.
    let r = c.take_place.ensures.frees c.if-take_place.true n p in
    let b = c.in_ok-append_place_back.ensures.back r.0 r.2.tokens r.2.place in
    freed_back by c.args.document.now r.0 n m c.args.operation.now b.0 c.args.inverse.now.items c.append_place_back.new.inverse.items c.take_place.new.later.items r.1 r.2 b.1 b.2 a

pub returns-clause-there : goal.returns-clause-there
returns-clause-there c = ok_all c.back_of.result _ _
    (λ h n p.
    let q = subst (λ (ls : List Later). IsPending (nodes (view c.args.document.now)) ls n) (sym (c.take_place.ensures.not_taken c.if-take_place.false)) p in
    (n, subst (λ (x : Data). IsPending (nodes x) c.make_apart.new.run.later.items n) (sym c.back_of.ensures.unchanged) (c.in_ok-make_apart.ensures.same n q), itself n c.args.operation.now))
    c.back_of.ensures.back

pub returns-clause-back : goal.returns-clause-back
returns-clause-back c = ok_all c.back_of.result _ _
    (λ h by n m p a.
    let q = subst (λ (ls : List Later). IsPending (nodes (view c.args.document.now)) ls n) (sym (c.take_place.ensures.not_taken c.if-take_place.false)) p in
    later_back c.make_apart.new.document n c.args.operation.now h.0 c.args.inverse.now.items c.back_of.new.inverse.items c.make_apart.new.run.later.items c.in_ok-make_apart.ensures.apart h.1 h.2 (c.in_ok-make_apart.ensures.same n q))
    c.back_of.ensures.back

pub returns-clause-refused : goal.returns-clause-refused
returns-clause-refused c = refused_all c.back_of.result _ _
    (λ e r by n p.
    let q = subst (λ (ls : List Later). IsPending (nodes (view c.args.document.now)) ls n) (sym (c.take_place.ensures.not_taken c.if-take_place.false)) p in
    now_refused by c.make_apart.new.document c.args.turn.number c.args.operation.now c.make_apart.new.run.later.items c.in_ok-make_apart.ensures.apart e (change_refused by (nodes (view c.make_apart.new.document)) c.args.turn.number c.args.operation.now e r) n (c.in_ok-make_apart.ensures.same n q))
    c.back_of.ensures.refused

pub returns-then-take_place-clause-inverse_sorted : goal.returns-then-take_place-clause-inverse_sorted
returns-then-take_place-clause-inverse_sorted c = λ h. c.in_ok-append_place_back.ensures.sorted

pub returns-clause-inverse_sorted : goal.returns-clause-inverse_sorted
returns-clause-inverse_sorted c = ok_all c.back_of.result _ _
    (λ k h. k (c.in_ok-make_apart.ensures.sorted h))
    c.back_of.ensures.inverse_sorted
