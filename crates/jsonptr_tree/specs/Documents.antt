-- Which maps are those of documents, and the maps and the key order of JSON and TOML values.
use Rattle.serde_json.specs.Data.{null}
use Rattle.serde_json.specs.View.{view as json_view}
use Rattle.serde_json.specs.declared.value.Value.{Value as JsonValue}
use Rattle.toml.specs.Data.{table, no_members}
use Rattle.toml.specs.View.{view as toml_view}
use Rattle.toml.specs.declared.value.Value.{Value as TomlValue}
use Rattle.jsonptr_tree.specs.Node.{NodeMap, IsTree, IsListed}
use Rattle.jsonptr_tree.specs.Json as json
use Rattle.jsonptr_tree.specs.TomlValue as toml

-- `IsDocument n`: `n` is the map of a document, a tree with finitely many paths
abbrev pub IsDocument : NodeMap → Type 0
IsDocument n = IsTree n × IsListed n

-- `json_map v` is the map of the JSON value `v`
abbrev pub json_map : JsonValue → NodeMap
json_map v = json.nodes (json_view v)

-- `json_blank` is the map of `null`, which removing the root of a JSON document leaves
abbrev pub json_blank : NodeMap
json_blank = json.nodes null

-- `JsonHasSortedKeys v`: each object in the JSON value `v` has its keys in ascending order
abbrev pub JsonHasSortedKeys : JsonValue → Type 0
JsonHasSortedKeys v = json.HasSortedKeys (json_view v)

-- `toml_map v` is the map of the TOML value `v`
abbrev pub toml_map : TomlValue → NodeMap
toml_map v = toml.nodes (toml_view v)

-- `toml_blank` is the map of the empty table, which removing the root of a TOML document leaves
abbrev pub toml_blank : NodeMap
toml_blank = toml.nodes (table no_members)

-- `TomlHasSortedKeys v`: each table in the TOML value `v` has its keys in ascending order
abbrev pub TomlHasSortedKeys : TomlValue → Type 0
TomlHasSortedKeys v = toml.HasSortedKeys (toml_view v)
