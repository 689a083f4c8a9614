-- What a JSON value contains, and its node map.
use Rattle.std.specs.Prelude.{List, Option}
use Rattle.serde_json.specs.Data as json
use Rattle.jsonptr_grammar.specs.Text.{Text}
use Rattle.jsonptr_tree.specs.Node.{Path, of_json, NodeMap}
use Rattle.jsonptr_tree.specs.Content.{Content, scalar, array, object, Items, no_items, item, Members, no_members, member, content_at, map_of, FindsContent, SortedContent, SortedItems, SortedMembers}

abbrev mutual
  -- `content d` is what the JSON value `d` contains. Null, booleans, numbers and strings are
  -- scalars
  pub content : json.Data → Content
  content json.null = scalar (of_json json.null)
  content (json.boolean b) = scalar (of_json (json.boolean b))
  content (json.number n) = scalar (of_json (json.number n))
  content (json.string s) = scalar (of_json (json.string s))
  content (json.array ds) = array (items ds)
  content (json.object ms) = object (members ms)

  -- `items ds` is what the elements `ds` contain
  pub items : json.Items → Items
  items json.no_items = no_items
  items (json.item d ds) = item (content d) (items ds)

  -- `members ms` is what the members `ms` contain
  pub members : json.Members → Members
  members json.no_members = no_members
  members (json.member k d ms) = member k (content d) (members ms)

-- `nodes d` is the node map of the JSON value `d`
abbrev pub nodes : json.Data → NodeMap
nodes d = map_of (content d)

-- `value_at w d` is what the JSON value `d` contains at the path `w`
abbrev pub value_at : Path → json.Data → Option Content
value_at w d = content_at w (content d)

-- `FindsValue d tokens e`: `tokens` name a path of the JSON value `d`, where it contains `e`
abbrev pub FindsValue : json.Data → List Text → json.Data → Type 0
FindsValue d tokens e = FindsContent (content d) tokens (content e)

-- `HasSortedKeys d`: each object in `d` has its keys in ascending order, as a `BTreeMap` has
abbrev pub HasSortedKeys : json.Data → Type 0
HasSortedKeys d = SortedContent (content d)

-- `ItemsHaveSortedKeys ds`: so has each object in the elements `ds`
abbrev pub ItemsHaveSortedKeys : json.Items → Type 0
ItemsHaveSortedKeys ds = SortedItems (items ds)

-- `MembersHaveSortedKeys ms`: the keys of `ms` are in ascending order, and so are those of each
-- object in them
abbrev pub MembersHaveSortedKeys : json.Members → Type 0
MembersHaveSortedKeys ms = SortedMembers (members ms)
