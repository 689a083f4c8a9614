-- The tokens that undo an assignment.
--
-- Used only by private contracts; no public contract depends on this file.
use Rattle.std.specs.Prelude.{[], List, IsSome}
use Rattle.jsonptr_grammar.specs.Text.{Text}
use Rattle.jsonptr_tree.specs.Node.{Path, NodeMap, Names}
use Rattle.jsonptr_tree.specs.Put.{put}
use Rattle.jsonptr_tree.specs.Landing.{Lands}
use Rattle.jsonptr_tree.specs.Assigning.{with_room}

-- `NamesLanding n tokens landing`: after any assignment at `tokens` in the map `n`, the tokens
-- `landing` name the path where the value landed
abbrev pub NamesLanding : NodeMap → List Text → List Text → Type 0
NamesLanding n tokens landing =
    (p : Path) (left : List Text)
    → Lands n tokens p left
    → (v : NodeMap)
    → IsSome (v [])
    → Names (put (with_room n p) p v) landing p
