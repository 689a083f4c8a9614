-- The document after an assignment.
use Rattle.std.specs.Prelude.{◌≡◌, suc, max, List, ◌∷◌, Option, Some, option_map}
use Rattle.jsonptr_grammar.specs.Text.{Text}
use Rattle.jsonptr_tree.specs.Node.{place, Path, Label, an_array, NodeMap, sub}
use Rattle.jsonptr_tree.specs.Put.{put, rest_after}
use Rattle.jsonptr_tree.specs.Expansion.{expanded}
use Rattle.jsonptr_tree.specs.Landing.{Lands}

-- `long_enough rest l` is the label `l` of a node at which a path continues with `rest`; an array
-- is made long enough to contain the index that comes next
abbrev pub long_enough : Option Path → Option Label → Option Label
long_enough (Some (place i ∷ p)) (Some (an_array len)) = Some (an_array (max len (suc i)))
long_enough r l = l

-- `with_room n p` is the map `n`, with each array on the path `p` long enough to contain the next
-- step
abbrev pub with_room : NodeMap → Path → NodeMap
with_room n p = λ w. long_enough (rest_after w p) (n w)

-- `found_at n w` is the map of the subtree of `n` at the path `w`, if there is one
abbrev pub found_at : NodeMap → Path → Option NodeMap
found_at n w = option_map (λ l. sub n w) (n w)

-- `Assigns n tokens v m old`: assigning `v` at `tokens` turns the map `n` into `m`, which has the
-- expanded `v` at the path where it lands. `old` is what it replaces, if anything
pub record Assigns (n : NodeMap) (tokens : List Text) (v m : NodeMap)
    (old : Option NodeMap) : Type 0 where
  pub path : Path
  pub left : List Text
  pub lands : Lands n tokens path left
  pub made : m ≡ put (with_room n path) path (expanded left v)
  pub replaced : old ≡ found_at n path
