use Rattle.std.proofs.Common.{◌∙◌, ◌++◌, ◌∷◌, [], List, ap, sym, subst}
use Rattle.serde_json.specs.View.{view}
use Rattle.jsonptr.specs.Json.{nodes}
use Rattle.jsonptr.specs.Node.{NodeMap}
use Rattle.jsonptr.specs.Pointer.{tokens}
use Rattle.jsonptr.specs.Text.{Text}
use Rattle.jsonptr.specs.Content.{Content, map_of}
use Rattle.jsonptr_patch.specs.Operating.{Moves, RefusesMove}
use Rattle.jsonptr_patch.specs.PrivateLater.{IsPending}
use Rattle.jsonptr_patch.specs.declared.later.Later.{Later}
use Rattle.jsonptr_patch.proofs.LaterLemmas.{blank_sorted, member_kept, waits_moved, waits_move_refused, now_moved, now_move_refused}
use Rattle.jsonptr_patch.proofs.OperatingLemmas.{ok_all, for_refused, refused_all}
use Rattle.jsonptr_patch.proofs.later.move_later.Goals as goal

pub returns-in-Ok-clause-moved : goal.returns-in-Ok-clause-moved
returns-in-Ok-clause-moved c =
    let b = (rw c.in-Some.is at c.in_ok-source.ensures.taken).blank in
    let one : Later = record { path = c.args.from; location = c.in_ok-kept.kept } in
    let reached = member_kept (nodes (view c.args.document.now)) c.args.from b.path c.in_ok-kept.kept b.named c.in_ok-kept.ensures in
    waits_moved c.args.document.now c.take_source.new.document c.add_taken.new.document c.in-Some.field-0.value (tokens c.args.path) b.path c.args.run.now.later.items c.push_reserved.new.self.items one c.requires.member b.named reached c.requires.apart c.requires.diverges b.written c.in-Ok.ensures.added
    (c.push_reserved.ensures.items ∙ ap (λ (ls : List Later). ls ++ one ∷ []) c.in_ok-make_room.ensures.items)

pub returns-in-Ok-clause-sorted : goal.returns-in-Ok-clause-sorted
returns-in-Ok-clause-sorted c = λ s.
    let b = (rw c.in-Some.is at c.in_ok-source.ensures.taken).blank in
    let both = blank_sorted b.path c.in-Some.field-0.value c.args.document.now c.take_source.new.document c.args.from b.written b.named s in
    c.in-Ok.ensures.sorted both.0 both.1

pub returns-in-Err-clause-refused : goal.returns-in-Err-clause-refused
returns-in-Err-clause-refused c =
    let b = (rw c.in-Some.is at c.in_ok-source.ensures.taken).blank in
    for_refused (Unit {0}) c.in-Err.field-0.fault _ (λ e. (n : NodeMap) → IsPending (nodes (view c.args.document.now)) c.args.run.now.later.items n → RefusesMove n c.args.turn.number c.args.from (tokens c.args.path) e)
    (λ e. waits_move_refused c.args.document.now c.take_source.new.document c.in-Some.field-0.value c.args.turn.number c.args.from (tokens c.args.path) b.path c.args.run.now.later.items e c.requires.member b.named c.requires.apart c.requires.diverges b.written)
    c.in-Err.ensures.refused

pub returns-in-None-clause-moved : goal.returns-in-None-clause-moved
returns-in-None-clause-moved c = ok_all c.move_value.result _ _
    (λ t n p.
    let new = nodes (view c.move_value.new.document) in
    let there = subst (λ (x : Content). Moves (map_of x) (tokens c.as_ptr.result) (tokens c.args.path) new) (rw c.in-None.is at c.in_ok-source.ensures.taken) t in
    let r = now_moved c.args.document.now c.move_value.new.document c.args.from (tokens c.args.path) c.args.run.now.later.items c.requires.apart
    (subst (λ (ts : List Text). Moves (nodes (view c.args.document.now)) ts (tokens c.args.path) new) c.as_ptr.ensures.tokens there) n p in
    (r.0, r.1, subst (λ (ls : List Later). IsPending new ls r.0) (sym c.in_ok-make_room.ensures.items) r.2))
    c.move_value.ensures.moved

pub returns-in-None-clause-refused : goal.returns-in-None-clause-refused
returns-in-None-clause-refused c = refused_all c.move_value.result _ _
    (λ e r n p.
    let there = subst (λ (x : Content). RefusesMove (map_of x) c.args.turn.number (tokens c.as_ptr.result) (tokens c.args.path) e) (rw c.in-None.is at c.in_ok-source.ensures.taken) r in
    now_move_refused c.args.document.now c.args.turn.number c.args.from (tokens c.args.path) c.args.run.now.later.items c.requires.apart e
    (subst (λ (ts : List Text). RefusesMove (nodes (view c.args.document.now)) c.args.turn.number ts (tokens c.args.path) e) c.as_ptr.ensures.tokens there) n p)
    c.move_value.ensures.refused
