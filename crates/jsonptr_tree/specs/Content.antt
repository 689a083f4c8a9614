-- What a value contains, independently of the crate of its type, and its node map.
use Rattle.std.specs.Prelude.{◌≡◌, ℕ, zero, suc, List, [], ◌∷◌, Option, Some, None, option_and_then, option_map, if◌then◌else◌}
use Rattle.std.specs.declared.cmp.Ordering.TheVariants.{Less}
use Rattle.std.specs.Ordering.{nat_cmp}
use Rattle.std.specs.Cmp.Lexicographic.{slice_cmp}
use Rattle.std.specs.Str.{bytes_eq}
use Rattle.jsonptr_grammar.specs.Text.{Text}
use Rattle.jsonptr_tree.specs.Node.{Step, key, place, Path, Scalar, Label, an_object, an_array, a_leaf, NodeMap, Names}

mutual
  -- `Content`: a scalar, an array of elements, or an object of members
  pub data Content : Type 0 where
    scalar : Scalar → Content
    array : Items → Content
    object : Members → Content

  -- `Items`: the elements of an array, in order
  pub data Items : Type 0 where
    no_items : Items
    item : Content → Items → Items

  -- `Members`: the members of an object, in some order, each with its key
  pub data Members : Type 0 where
    no_members : Members
    member : Text → Content → Members → Members

-- `items_len ds` is the number of the elements `ds`
abbrev pub items_len : Items → ℕ
items_len no_items = 0
items_len (item d ds) = suc (items_len ds)

-- `get_item i ds` is the element of `ds` at the index `i`
abbrev pub get_item : ℕ → Items → Option Content
get_item i no_items = None
get_item zero (item d ds) = Some d
get_item (suc i) (item d ds) = get_item i ds

-- `get_member k ms` is the first member of `ms` under the key `k`
abbrev pub get_member : Text → Members → Option Content
get_member k no_members = None
get_member k (member l d ms) = if bytes_eq k l then Some d else get_member k ms

-- `label_of d` is the label of the root of `d`
abbrev pub label_of : Content → Label
label_of (scalar v) = a_leaf v
label_of (array ds) = an_array (items_len ds)
label_of (object ms) = an_object

-- `child s d` is the child of the root of `d` at the step `s`
abbrev pub child : Step → Content → Option Content
child s (scalar v) = None
child (key k) (array ds) = None
child (place i) (array ds) = get_item i ds
child (key k) (object ms) = get_member k ms
child (place i) (object ms) = None

-- `content_at w d` is what `d` contains at the path `w`
abbrev pub content_at : Path → Content → Option Content
content_at [] d = Some d
content_at (s ∷ w) d = option_and_then (content_at w) (child s d)

-- `map_of d` is the node map of `d`
abbrev pub map_of : Content → NodeMap
map_of d = λ w. option_map label_of (content_at w d)

-- `FindsContent d tokens e`: `tokens` name a path of `d`, where it contains `e`
pub record FindsContent (d : Content) (tokens : List Text) (e : Content) : Type 0 where
  pub path : Path
  pub named : Names (map_of d) tokens path
  pub there : content_at path d ≡ Some e

-- `KeysAbove k ms`: each key of the members `ms` is greater than `k`
abbrev pub KeysAbove : Text → Members → Type 0
KeysAbove k no_members = Unit {0}
KeysAbove k (member l d ms) = (slice_cmp nat_cmp k l ≡ Less) × KeysAbove k ms

abbrev mutual
  -- `SortedContent d`: each object in `d` has its keys in ascending order, as a `BTreeMap` has
  pub SortedContent : Content → Type 0
  SortedContent (scalar v) = Unit {0}
  SortedContent (array ds) = SortedItems ds
  SortedContent (object ms) = SortedMembers ms

  -- `SortedItems ds`: so has each object in the elements `ds`
  pub SortedItems : Items → Type 0
  SortedItems no_items = Unit {0}
  SortedItems (item d ds) = SortedContent d × SortedItems ds

  -- `SortedMembers ms`: the keys of `ms` are in ascending order, and so are those of each object in
  -- them
  pub SortedMembers : Members → Type 0
  SortedMembers no_members = Unit {0}
  SortedMembers (member k d ms) = SortedContent d × KeysAbove k ms × SortedMembers ms
