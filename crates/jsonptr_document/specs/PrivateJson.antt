-- JSON values as documents.
--
-- Used only by private contracts; no public contract depends on this file.
use Rattle.std.specs.Prelude.{◌≡◌, Some}
use Rattle.serde_json.specs.View.{view}
use Rattle.serde_json.specs.declared.value.Value.{Value}
use Rattle.jsonptr_tree.specs.Node.{Path, NodeMap}
use Rattle.jsonptr_tree.specs.Json.{content, nodes, value_at, HasSortedKeys}

-- `nodes_of v` is the map of the value `v`
abbrev pub nodes_of : Value → NodeMap
nodes_of v = nodes (view v)

-- `stands_in v w u`: the value `v` contains `u` at the path `w`
abbrev pub stands_in : Value → Path → Value → Type 0
stands_in v w u = value_at w (view v) ≡ Some (content (view u))

-- `sorted_in v`: each object in the value `v` has its keys in ascending order
abbrev pub sorted_in : Value → Type 0
sorted_in v = HasSortedKeys (view v)
