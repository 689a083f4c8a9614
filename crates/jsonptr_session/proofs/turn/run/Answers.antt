use Rattle.std.proofs.lemmas.List.{map-append}
use Rattle.std.proofs.Common.{◌++◌, ◌∷◌, [], ap, sym, ◌∙◌, append_assoc, arith, length-append}
use Rattle.std.proofs.lemmas.List.Elements.{All-push}
use Rattle.jsonptr_session.specs.Order.{CallHas, ReplyHas}
use Rattle.jsonptr_session.proofs.RunLemmas.{run_on, each_at}
use Rattle.jsonptr_session.proofs.turn.run.Goals as goal

pub loop-call-preserved : goal.loop-call-preserved
loop-call-preserved g c =
    let held = c.loop-call.invariant in
    let steps = c.in-Some.ensures.steps in
    let items = rw c.unwrap.ensures at c.push.ensures.items in
    let len = rw c.unwrap.ensures at c.push.ensures.len in
    let split = ap (λ l. c.loop-call.yielded ++ l) (sym steps.0) ∙ held.rest in
    let brought = each_at (CallHas g.D.SessionDocument.has_sorted_keys) c.loop-call.yielded _ _ c.in-Some.call split in
    record {
      callable = tt;
      finite = tt;
      rest = append_assoc c.loop-call.yielded (c.in-Some.call ∷ []) _ ∙ split;
      room = simp length-append (omega (arith, held.room, held.paired, steps.1, c.push.ensures.capacity));
      paired = simp length-append (omega (arith, held.paired, len));
      ran = rw items (simp map-append (run_on g.D.SessionDocument.blank _ _ _ _ _ _ _ held.ran c.turn-reply.ensures.steps));
      order = λ all ordered. c.turn-reply.ensures.sorted (brought all) (held.order all ordered);
      returned_sorted = λ all ordered. rw items (All-push (ReplyHas g.D.SessionDocument.has_sorted_keys) _ _ (held.returned_sorted all ordered) (c.turn-reply.ensures.returned_sorted (held.order all ordered)));
    }
