-- What a TOML value contains, and its node map.
use Rattle.std.specs.Prelude.{List, Option}
use Rattle.toml.specs.Data as toml
use Rattle.jsonptr_grammar.specs.Text.{Text}
use Rattle.jsonptr_tree.specs.Node.{Path, of_toml, NodeMap}
use Rattle.jsonptr_tree.specs.Content.{Content, scalar, array, object, Items, no_items, item, Members, no_members, member, content_at, map_of, FindsContent, SortedContent}

abbrev mutual
  -- `content d` is what the TOML value `d` contains. A table is an object; strings, integers,
  -- floats, booleans and date-times are scalars
  pub content : toml.Data → Content
  content (toml.string s) = scalar (of_toml (toml.string s))
  content (toml.integer z) = scalar (of_toml (toml.integer z))
  content (toml.float x) = scalar (of_toml (toml.float x))
  content (toml.boolean b) = scalar (of_toml (toml.boolean b))
  content (toml.datetime dt) = scalar (of_toml (toml.datetime dt))
  content (toml.array ds) = array (items ds)
  content (toml.table ms) = object (members ms)

  -- `items ds` is what the elements `ds` contain
  pub items : toml.Items → Items
  items toml.no_items = no_items
  items (toml.item d ds) = item (content d) (items ds)

  -- `members ms` is what the members `ms` contain
  pub members : toml.Members → Members
  members toml.no_members = no_members
  members (toml.member k d ms) = member k (content d) (members ms)

-- `nodes d` is the node map of the TOML value `d`
abbrev pub nodes : toml.Data → NodeMap
nodes d = map_of (content d)

-- `value_at w d` is what the TOML value `d` contains at the path `w`
abbrev pub value_at : Path → toml.Data → Option Content
value_at w d = content_at w (content d)

-- `FindsValue d tokens e`: `tokens` name a path of the TOML value `d`, where it contains `e`
abbrev pub FindsValue : toml.Data → List Text → toml.Data → Type 0
FindsValue d tokens e = FindsContent (content d) tokens (content e)

-- `HasSortedKeys d`: each table in `d` has its keys in ascending order, as a `BTreeMap` has
abbrev pub HasSortedKeys : toml.Data → Type 0
HasSortedKeys d = SortedContent (content d)
