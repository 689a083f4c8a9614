-- A call of the pointer has the same answer for every document, and so for this one.
use Rattle.jsonptr_session.proofs.turn.answer.Goals as goal

pub returns-in-Parse-clause-steps : goal.returns-in-Parse-clause-steps
returns-in-Parse-clause-steps g c = rw c.in-Parse.is (c.parse.ensures.steps (g.D.SessionDocument.nodes c.args.document.now))

pub returns-in-PushBack-clause-steps : goal.returns-in-PushBack-clause-steps
returns-in-PushBack-clause-steps g c = rw c.in-PushBack.is (c.push_back.ensures.steps (g.D.SessionDocument.nodes c.args.document.now))

pub returns-in-PushFront-clause-steps : goal.returns-in-PushFront-clause-steps
returns-in-PushFront-clause-steps g c = rw c.in-PushFront.is (c.push_front.ensures.steps (g.D.SessionDocument.nodes c.args.document.now))

pub returns-in-Replace-clause-steps : goal.returns-in-Replace-clause-steps
returns-in-Replace-clause-steps g c = rw c.in-Replace.is (c.replace.ensures.steps (g.D.SessionDocument.nodes c.args.document.now))

pub returns-in-Append-clause-steps : goal.returns-in-Append-clause-steps
returns-in-Append-clause-steps g c = rw c.in-Append.is (c.append.ensures.steps (g.D.SessionDocument.nodes c.args.document.now))

pub returns-in-PopBack-clause-steps : goal.returns-in-PopBack-clause-steps
returns-in-PopBack-clause-steps g c = rw c.in-PopBack.is (c.pop_back.ensures.steps (g.D.SessionDocument.nodes c.args.document.now))

pub returns-in-PopFront-clause-steps : goal.returns-in-PopFront-clause-steps
returns-in-PopFront-clause-steps g c = rw c.in-PopFront.is (c.pop_front.ensures.steps (g.D.SessionDocument.nodes c.args.document.now))

pub returns-in-Clear-clause-steps : goal.returns-in-Clear-clause-steps
returns-in-Clear-clause-steps g c = rw c.in-Clear.is (c.clear.ensures.steps (g.D.SessionDocument.nodes c.args.document.now))
