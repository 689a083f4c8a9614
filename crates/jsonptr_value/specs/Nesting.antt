-- How deep the map of a document nests.
use Rattle.std.specs.Prelude.{ℕ, ◌<◌, length, Option, Some, None, ⊤}
use Rattle.jsonptr_tree.specs.Node.{Label, an_object, an_array, a_leaf, Path, NodeMap}

-- `IsContainer label`: a node with this label is an object or an array
abbrev pub IsContainer : Option Label → Type 0
IsContainer None = ⊥
IsContainer (Some an_object) = ⊤
IsContainer (Some (an_array len)) = ⊤
IsContainer (Some (a_leaf v)) = ⊥

-- `NestsWithin k n`: the objects and arrays of the map `n` nest at most `k` levels deep
abbrev pub NestsWithin : ℕ → NodeMap → Type 0
NestsWithin k n = (w : Path) → IsContainer (n w) → length w < k
