-- Elements added to an array and removed from it, and members of an object.
use Rattle.std.specs.Prelude.{◌≡◌, ℕ, zero, suc, [], ◌∷◌, ⊤, List, Vec, String, IsSome, if◌then◌else◌, string_bytes}
use Rattle.std.specs.BTreeMap.{BTreeMap}
use Rattle.std.specs.declared.alloc.Global.{Global}
use Rattle.std.specs.Ordering.{nat_cmp, match_ordering}
use Rattle.std.specs.Cmp.Lexicographic.{slice_cmp}
use Rattle.std.specs.Str.{bytes_eq}
use Rattle.serde_json.specs.declared.value.Value.{Value}
use Rattle.jsonptr.specs.Text.{Text}
use Rattle.jsonptr.specs.Content.{Content, array, object, Items, no_items, item, Members, no_members, member, get_member, KeysAbove}
use Rattle.jsonptr_patch_journal.specs.Location.{contents_of}

-- `insert_item i c ds`: the elements `ds` with `c` inserted before the one at index `i`
abbrev pub insert_item : ℕ → Content → Items → Items
insert_item zero c ds = item c ds
insert_item (suc i) c no_items = item c no_items
insert_item (suc i) c (item d ds) = item d (insert_item i c ds)

-- `without_item i ds`: the elements `ds` without the one at index `i`
abbrev pub without_item : ℕ → Items → Items
without_item i no_items = no_items
without_item zero (item d ds) = ds
without_item (suc i) (item d ds) = item d (without_item i ds)

-- `items_in vs`: what the values `vs` contain
abbrev pub items_in : List Value → Items
items_in [] = no_items
items_in (v ∷ vs) = item (contents_of v) (items_in vs)

-- `members_in es`: the keys of the entries `es`, and what their values contain
abbrev pub members_in : List (String Global × Value) → Members
members_in [] = no_members
members_in (e ∷ es) = member (string_bytes e.0) (contents_of e.1) (members_in es)

-- `members_of m`: the members of the map `m`
abbrev pub members_of : BTreeMap (String Global) Value → Members
members_of m = members_in m.entries

-- `array_of vs`: what an array of the values `vs` contains
abbrev pub array_of : Vec Value Global → Content
array_of vs = array (items_in vs.items)

-- `object_of m`: what an object of the entries of the map `m` contains
abbrev pub object_of : BTreeMap (String Global) Value → Content
object_of m = object (members_of m)

-- `put_member k c ms`: the members `ms`, in ascending order of keys, with `c` under the key `k`
abbrev pub put_member : Text → Content → Members → Members
put_member k c no_members = member k c no_members
put_member k c (member l d ms) = match_ordering (slice_cmp nat_cmp k l) (member k c (member l d ms)) (member l c ms) (member l d (put_member k c ms))

-- `put_all ms base`: the members `base`, with each of `ms` put under its key
abbrev pub put_all : Members → Members → Members
put_all no_members base = base
put_all (member k c ms) base = put_all ms (put_member k c base)

-- `without_member k ms`: the members `ms` without the first one under the key `k`
abbrev pub without_member : Text → Members → Members
without_member k no_members = no_members
without_member k (member l d ms) = if bytes_eq k l then ms else member l d (without_member k ms)

-- `KeysRise ms`: the keys of `ms` are in ascending order
abbrev pub KeysRise : Members → Type 0
KeysRise no_members = ⊤
KeysRise (member k d ms) = KeysAbove k ms × KeysRise ms

-- `HasAll ms base`: each key of `ms` is a key of `base`
abbrev pub HasAll : Members → Members → Type 0
HasAll no_members base = ⊤
HasAll (member k c ms) base = IsSome (get_member k base) × HasAll ms base

-- `IsRoom room left ms`: the members `room` have the key of each of `left`, and with these put into them they are `ms`
pub record IsRoom (room left ms : Members) : Type 0 where
  pub has : HasAll left room
  pub whole : put_all left room ≡ ms
