use Rattle.jsonptr_syntax.specs.PointerText.{tokens}
use Rattle.jsonptr_walk.proofs.AssignLemmas.{expand_more}
use Rattle.jsonptr_walk.proofs.put.expand.Goals as goal

pub loop-front-preserved-in_ok-expanded : goal.loop-front-preserved-in_ok-expanded
loop-front-preserved-in_ok-expanded g c = (
  expand_more (tokens c.loop-front.left) (tokens c.in-Some.front) c.in-Some.token (g.N.Document.nodes c.loop-front.expanded) (g.N.Document.nodes c.in_ok-expanded.expanded) _ c.in-Some.ensures c.in_ok-expanded.ensures.map c.loop-front.invariant.0,
  λ order. c.in_ok-expanded.ensures.sorted (c.loop-front.invariant.1 order),
)

pub loop-front-preserved : goal.loop-front-preserved
loop-front-preserved g c = (
  expand_more (tokens c.loop-front.left) (tokens c.in-Some.front) c.in-Some.token (g.N.Document.nodes c.loop-front.expanded) (g.N.Document.nodes c.in_ok-expanded.expanded) _ c.in-Some.ensures c.in_ok-expanded.ensures.map c.loop-front.invariant.0,
  λ order. c.in_ok-expanded.ensures.sorted (c.loop-front.invariant.1 order),
)
