use Rattle.jsonptr_session.proofs.UndoLemmas.{with_undo, undone}
use Rattle.jsonptr_session.proofs.assign_undoable.assign_undoable.Goals as goal

pub returns-in-Some-clause-assigned : goal.returns-in-Some-clause-assigned
returns-in-Some-clause-assigned g c = with_undo g.D.SessionDocument.nodes _ _ _ _ _ _ (g.met.D.SessionDocument.is_tree c.args.value) c.in_ok-landing.ensures c.in-Some.is c.in_ok-old.ensures.assigned

pub returns-in-None-clause-assigned : goal.returns-in-None-clause-assigned
returns-in-None-clause-assigned g c = with_undo g.D.SessionDocument.nodes _ _ _ _ _ _ (g.met.D.SessionDocument.is_tree c.args.value) c.in_ok-landing.ensures c.in-None.is c.in_ok-old.ensures.assigned

pub returns-in-Some-clause-inverse : goal.returns-in-Some-clause-inverse
returns-in-Some-clause-inverse g c = undone g.D.SessionDocument.nodes _ _ _ _ g.D.SessionDocument.blank _ (g.met.D.SessionDocument.is_tree c.args.document.now) (returns-in-Some-clause-assigned g c)

pub returns-in-None-clause-inverse : goal.returns-in-None-clause-inverse
returns-in-None-clause-inverse g c = undone g.D.SessionDocument.nodes _ _ _ _ g.D.SessionDocument.blank _ (g.met.D.SessionDocument.is_tree c.args.document.now) (returns-in-None-clause-assigned g c)
