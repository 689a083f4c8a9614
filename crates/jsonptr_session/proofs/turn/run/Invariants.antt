use Rattle.std.proofs.Common.{◌≡◌, ◌+◌, ◌++◌, ◌≤◌, length, map, vec_len, vec_capacity}
use Rattle.std.specs.Vec.Iter.{into_iter_items, into_iter_len}
use Rattle.std.specs.Prelude.{All}
use Rattle.jsonptr_session.specs.Machine.{Runs}
use Rattle.jsonptr_session.specs.Session.{command_of, answer_of}
use Rattle.jsonptr_session.specs.Order.{CallHas, ReplyHas}
use Rattle.jsonptr_session.proofs.turn.run.Given as goal

abbrev pub invariant-loop-call : goal.invariant-loop-call
invariant-loop-call g l = record {
  callable : (goal.iterator-loop-call g).can_next l.call-iterator;
  finite : (goal.iterator-loop-call g).is_finite l.call-iterator;
  rest : l.yielded ++ into_iter_items l.call-iterator ≡ l.fn.calls.items;
  room : length l.yielded + into_iter_len l.call-iterator ≤ vec_capacity l.replies;
  paired : vec_len l.replies ≡ length l.yielded;
  ran : Runs g.D.SessionDocument.blank
      (record { tokens = g.P.EditPointer.list l.initial.pointer; nodes = g.D.SessionDocument.nodes l.initial.document })
      (map (command_of g.D.SessionDocument.nodes) l.yielded) (map (answer_of g.D.SessionDocument.nodes) l.replies.items)
      (record { tokens = g.P.EditPointer.list l.pointer; nodes = g.D.SessionDocument.nodes l.document });
  order : All (CallHas g.D.SessionDocument.has_sorted_keys) l.fn.calls.items
      → g.D.SessionDocument.has_sorted_keys l.initial.document → g.D.SessionDocument.has_sorted_keys l.document;
  returned_sorted : All (CallHas g.D.SessionDocument.has_sorted_keys) l.fn.calls.items
      → g.D.SessionDocument.has_sorted_keys l.initial.document → All (ReplyHas g.D.SessionDocument.has_sorted_keys) l.replies.items;
}
