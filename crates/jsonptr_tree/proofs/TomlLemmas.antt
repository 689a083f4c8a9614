-- What a TOML value holds, and one level of a Rust value.
use Rattle.std.proofs.Common.{◌≡◌, ℤ, Float, true, Bool, List, [], ◌∷◌, ◌++◌, Some, String, string_bytes, Vec, BTreeMap, Global, refl, sym, ap, ap₂, ◌∙◌, ℕ, zero, suc, false, cond, bytes_eq}
use Rattle.toml.specs.Data as toml
use Rattle.toml.specs.View.{view, items_view, members_view}
use Rattle.toml.specs.declared.value.Value.{Value, String as of_string, Integer as of_integer, Float as of_float, Boolean as of_boolean, Datetime as of_datetime, Array, Table}
use Rattle.toml.proofs.Views.{view-String, view-Integer, view-Float, view-Boolean, view-Datetime, view-Array, view-Table}
use Rattle.jsonptr_grammar.specs.Text.{Text}
use Rattle.jsonptr_tree.specs.Node.{Step, key, place, Path, of_toml, of_json, sub}
use Rattle.jsonptr_tree.specs.Following.{Finds}
use Rattle.jsonptr_tree.specs.Content.{Content, scalar, array, object, Items, no_items, item, Members, no_members, member, get_item, get_member, child}
use Rattle.jsonptr_tree.specs.TomlValue.{content, items, members, nodes, value_at, FindsValue, HasSortedKeys}
use Rattle.jsonptr_tree.proofs.ContentLemmas.{content_at-below, map_of-sub, FindsContent-Finds, FindsContent_one, content_at-of}
use Rattle.jsonptr_tree.proofs.ContentMapLemmas.{map_of_one}
use Rattle.jsonptr_tree.proofs.ContentOrderLemmas.{part_has_sorted_keys}
use Rattle.jsonptr_tree.proofs.LevelLemmas.{items_by, members_by}

-- what it contains determines the value

mutual
  value : Content → toml.Data
  value (scalar (of_toml d)) = d
  value (scalar (of_json d)) = toml.boolean true
  value (array ds) = toml.array (elements ds)
  value (object ms) = toml.table (entries ms)

  elements : Items → toml.Items
  elements no_items = toml.no_items
  elements (item d ds) = toml.item (value d) (elements ds)

  entries : Members → toml.Members
  entries no_members = toml.no_members
  entries (member k d ms) = toml.member k (value d) (entries ms)

mutual
  unfolding value elements entries

  value-content : (d : toml.Data) → value (content d) ≡ d
  value-content (toml.string s) = refl
  value-content (toml.integer z) = refl
  value-content (toml.float x) = refl
  value-content (toml.boolean b) = refl
  value-content (toml.datetime dt) = refl
  value-content (toml.array ds) = ap toml.array (elements-items ds)
  value-content (toml.table ms) = ap toml.table (entries-members ms)

  elements-items : (ds : toml.Items) → elements (items ds) ≡ ds
  elements-items toml.no_items = refl
  elements-items (toml.item d ds) = ap₂ toml.item (value-content d) (elements-items ds)

  entries-members : (ms : toml.Members) → entries (members ms) ≡ ms
  entries-members toml.no_members = refl
  entries-members (toml.member k d ms) = ap₂ (toml.member k) (value-content d) (entries-members ms)

-- two values with equal content are equal
pub content_one : (d e : toml.Data) → content d ≡ content e → d ≡ e
content_one d e h = sym (value-content d) ∙ ap value h ∙ value-content e

-- each part of a value is a value

item_value : (ds : toml.Items) (i : ℕ) (c : Content) → get_item i (items ds) ≡ Some c → (e : toml.Data) × (c ≡ content e)
item_value toml.no_items i c h = let none : ⊥ = cc in absurd none
item_value (toml.item d ds) zero c h = let same : c ≡ content d = cc in (d, same)
item_value (toml.item d ds) (suc i) c h = item_value ds i c h

member_value : (k : Text) (ms : toml.Members) (c : Content) → get_member k (members ms) ≡ Some c → (e : toml.Data) × (c ≡ content e)
member_value k toml.no_members c h = let none : ⊥ = cc in absurd none
member_value k (toml.member l d ms) c h = by_test (member_value k ms c) (bytes_eq k l) h
  where
    by_test : (get_member k (members ms) ≡ Some c → (e : toml.Data) × (c ≡ content e)) → (b : Bool) → cond b (Some (content d)) (get_member k (members ms)) ≡ Some c → (e : toml.Data) × (c ≡ content e)
    by_test later true g = let same : c ≡ content d = cc in (d, same)
    by_test later false g = later g

child_value : (s : Step) (d : toml.Data) (c : Content) → child s (content d) ≡ Some c → (e : toml.Data) × (c ≡ content e)
child_value s (toml.string t) c h = let none : ⊥ = cc in absurd none
child_value s (toml.integer z) c h = let none : ⊥ = cc in absurd none
child_value s (toml.float x) c h = let none : ⊥ = cc in absurd none
child_value s (toml.boolean b) c h = let none : ⊥ = cc in absurd none
child_value s (toml.datetime dt) c h = let none : ⊥ = cc in absurd none
child_value (key k) (toml.array ds) c h = let none : ⊥ = cc in absurd none
child_value (place i) (toml.array ds) c h = item_value ds i c h
child_value (key k) (toml.table ms) c h = member_value k ms c h
child_value (place i) (toml.table ms) c h = let none : ⊥ = cc in absurd none

-- the content at a path of a value is the content of a value
pub value_at-value : (w : Path) (d : toml.Data) (c : Content) → value_at w d ≡ Some c → (e : toml.Data) × (c ≡ content e)
value_at-value = content_at-of content child_value

-- the content below a path
pub value_at-below : (w v : Path) (d e : toml.Data) → value_at w d ≡ Some (content e) → value_at (w ++ v) d ≡ value_at v e
value_at-below w v d e = content_at-below w v (content d) (content e)

-- the map of the value at a path is the map below the path
pub nodes-sub : (w : Path) (d e : toml.Data) → value_at w d ≡ Some (content e) → nodes e ≡ sub (nodes d) w
nodes-sub w d e = map_of-sub w (content d) (content e)

-- the value that tokens find has the map that they find
pub FindsValue-Finds : (d : toml.Data) (tokens : List Text) (e : toml.Data) → FindsValue d tokens e → Finds (nodes d) tokens (nodes e)
FindsValue-Finds d tokens e = FindsContent-Finds (content d) tokens (content e)

-- tokens find one value
pub FindsValue_one : (d : toml.Data) (tokens : List Text) (e f : toml.Data) → FindsValue d tokens e → FindsValue d tokens f → e ≡ f
FindsValue_one d tokens e f h k = content_one e f (FindsContent_one (content d) tokens (content e) (content f) h k)

-- two values with one map are equal
pub nodes_one : (d e : toml.Data) → HasSortedKeys d → HasSortedKeys e → nodes d ≡ nodes e → d ≡ e
nodes_one d e a b h = content_one d e (map_of_one (content d) (content e) a b h)

-- each part of a value with sorted keys has sorted keys
pub ascends_part : (w : Path) (d e : toml.Data) → HasSortedKeys d → value_at w d ≡ Some (content e) → HasSortedKeys e
ascends_part w d e = part_has_sorted_keys w (content d) (content e)

-- one level of a Rust value

-- what it holds
abbrev pub content_of : Value → Content
content_of v = content (view v)

items-view : (vs : List Value) → items (items_view vs) ≡ items_by content_of vs
items-view [] = refl
items-view (v ∷ vs) = ap (item (content_of v)) (items-view vs)

members-view : (es : List (String Global × Value)) → members (members_view es) ≡ members_by content_of es
members-view [] = refl
members-view (e ∷ es) = ap (member (string_bytes e.0) (content_of e.1)) (members-view es)

-- a list of values
pub array_is : (v : Vec Value Global) → content_of (Array v) ≡ array (items_by content_of v.items)
array_is v = ap content (view-Array v) ∙ ap array (items-view v.items)

-- a map of values
pub object_is : (m : BTreeMap (String Global) Value) → content_of (Table m) ≡ object (members_by content_of m.entries)
object_is m = ap content (view-Table m) ∙ ap object (members-view m.entries)

-- every other value is a scalar

pub string_is : (s : String Global) → content_of (of_string s) ≡ scalar (of_toml (toml.string (string_bytes s)))
string_is s = ap content (view-String s)

pub integer_is : (z : ℤ) → content_of (of_integer z) ≡ scalar (of_toml (toml.integer z))
integer_is z = ap content (view-Integer z)

pub float_is : (x : Float) → content_of (of_float x) ≡ scalar (of_toml (toml.float x))
float_is x = ap content (view-Float x)

pub boolean_is : (b : Bool) → content_of (of_boolean b) ≡ scalar (of_toml (toml.boolean b))
boolean_is b = ap content (view-Boolean b)

pub datetime_is : (dt : _) → content_of (of_datetime dt) ≡ scalar (of_toml (toml.datetime dt))
datetime_is dt = ap content (view-Datetime dt)
