use Rattle.std.proofs.Common.{◌≡◌, length}
use Rattle.jsonptr_tree.specs.Expansion.{expanded}
use Rattle.jsonptr_syntax.specs.PointerText.{tokens}
use Rattle.jsonptr_walk.proofs.put.expand.Given as goal

abbrev pub invariant-loop-front : goal.invariant-loop-front
invariant-loop-front g l =
    (expanded (tokens l.left) (g.N.Document.nodes l.expanded) ≡ expanded (tokens l.fn.route) (g.N.Document.nodes l.fn.value))
    × (g.N.Document.has_sorted_keys l.fn.value → g.N.Document.has_sorted_keys l.expanded)

abbrev pub decreases-loop-front : goal.decreases-loop-front
decreases-loop-front g l = length (tokens l.left)
