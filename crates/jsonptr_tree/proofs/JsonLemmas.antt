-- What a JSON value holds, and one level of a Rust value.
use Rattle.std.proofs.Common.{◌≡◌, Bool, List, [], ◌∷◌, ◌++◌, Some, String, string_bytes, Vec, BTreeMap, Global, refl, sym, ap, ap₂, ◌∙◌, rules, ℕ, zero, suc, true, false, cond, bytes_eq}
use Rattle.serde_json.specs.Data as json
use Rattle.serde_json.specs.View.{view, number_view, items_view, members_view}
use Rattle.serde_json.specs.declared.value.Value.{Value, Null, Bool as of_bool, Number as of_number, String as of_string, Array, Object, the_lemmas}
use Rattle.serde_json.specs.declared.number.Number.{Number}
use Rattle.serde_json.proofs.Views.{view-Array, view-Object}
use Rattle.jsonptr_grammar.specs.Text.{Text}
use Rattle.jsonptr_tree.specs.Node.{Step, key, place, Path, of_json, of_toml, sub}
use Rattle.jsonptr_tree.specs.Following.{Finds}
use Rattle.jsonptr_tree.specs.Content.{Content, scalar, array, object, Items, no_items, item, Members, no_members, member, get_item, get_member, child}
use Rattle.jsonptr_tree.specs.Json.{content, items, members, nodes, value_at, FindsValue, HasSortedKeys}
use Rattle.jsonptr_tree.proofs.ContentLemmas.{content_at-below, map_of-sub, FindsContent-Finds, FindsContent_one, content_at-of}
use Rattle.jsonptr_tree.proofs.ContentMapLemmas.{map_of_one}
use Rattle.jsonptr_tree.proofs.ContentOrderLemmas.{part_has_sorted_keys}
use Rattle.jsonptr_tree.proofs.LevelLemmas.{items_by, members_by}

-- what it contains determines the value

mutual
  value : Content → json.Data
  value (scalar (of_json d)) = d
  value (scalar (of_toml d)) = json.null
  value (array ds) = json.array (elements ds)
  value (object ms) = json.object (entries ms)

  elements : Items → json.Items
  elements no_items = json.no_items
  elements (item d ds) = json.item (value d) (elements ds)

  entries : Members → json.Members
  entries no_members = json.no_members
  entries (member k d ms) = json.member k (value d) (entries ms)

mutual
  unfolding value elements entries

  value-content : (d : json.Data) → value (content d) ≡ d
  value-content json.null = refl
  value-content (json.boolean b) = refl
  value-content (json.number n) = refl
  value-content (json.string s) = refl
  value-content (json.array ds) = ap json.array (elements-items ds)
  value-content (json.object ms) = ap json.object (entries-members ms)

  elements-items : (ds : json.Items) → elements (items ds) ≡ ds
  elements-items json.no_items = refl
  elements-items (json.item d ds) = ap₂ json.item (value-content d) (elements-items ds)

  entries-members : (ms : json.Members) → entries (members ms) ≡ ms
  entries-members json.no_members = refl
  entries-members (json.member k d ms) = ap₂ (json.member k) (value-content d) (entries-members ms)

-- two values with equal content are equal
pub content_one : (d e : json.Data) → content d ≡ content e → d ≡ e
content_one d e h = sym (value-content d) ∙ ap value h ∙ value-content e

-- each part of a value is a value

item_value : (ds : json.Items) (i : ℕ) (c : Content) → get_item i (items ds) ≡ Some c → (e : json.Data) × (c ≡ content e)
item_value json.no_items i c h = let none : ⊥ = cc in absurd none
item_value (json.item d ds) zero c h = let same : c ≡ content d = cc in (d, same)
item_value (json.item d ds) (suc i) c h = item_value ds i c h

member_value : (k : Text) (ms : json.Members) (c : Content) → get_member k (members ms) ≡ Some c → (e : json.Data) × (c ≡ content e)
member_value k json.no_members c h = let none : ⊥ = cc in absurd none
member_value k (json.member l d ms) c h = by_test (member_value k ms c) (bytes_eq k l) h
  where
    by_test : (get_member k (members ms) ≡ Some c → (e : json.Data) × (c ≡ content e)) → (b : Bool) → cond b (Some (content d)) (get_member k (members ms)) ≡ Some c → (e : json.Data) × (c ≡ content e)
    by_test later true g = let same : c ≡ content d = cc in (d, same)
    by_test later false g = later g

child_value : (s : Step) (d : json.Data) (c : Content) → child s (content d) ≡ Some c → (e : json.Data) × (c ≡ content e)
child_value s json.null c h = let none : ⊥ = cc in absurd none
child_value s (json.boolean b) c h = let none : ⊥ = cc in absurd none
child_value s (json.number n) c h = let none : ⊥ = cc in absurd none
child_value s (json.string t) c h = let none : ⊥ = cc in absurd none
child_value (key k) (json.array ds) c h = let none : ⊥ = cc in absurd none
child_value (place i) (json.array ds) c h = item_value ds i c h
child_value (key k) (json.object ms) c h = member_value k ms c h
child_value (place i) (json.object ms) c h = let none : ⊥ = cc in absurd none

-- the content at a path of a value is the content of a value
pub value_at-value : (w : Path) (d : json.Data) (c : Content) → value_at w d ≡ Some c → (e : json.Data) × (c ≡ content e)
value_at-value = content_at-of content child_value

-- the content below a path
pub value_at-below : (w v : Path) (d e : json.Data) → value_at w d ≡ Some (content e) → value_at (w ++ v) d ≡ value_at v e
value_at-below w v d e = content_at-below w v (content d) (content e)

-- the map of the value at a path is the map below the path
pub nodes-sub : (w : Path) (d e : json.Data) → value_at w d ≡ Some (content e) → nodes e ≡ sub (nodes d) w
nodes-sub w d e = map_of-sub w (content d) (content e)

-- the value that tokens find has the map that they find
pub FindsValue-Finds : (d : json.Data) (tokens : List Text) (e : json.Data) → FindsValue d tokens e → Finds (nodes d) tokens (nodes e)
FindsValue-Finds d tokens e = FindsContent-Finds (content d) tokens (content e)

-- tokens find one value
pub FindsValue_one : (d : json.Data) (tokens : List Text) (e f : json.Data) → FindsValue d tokens e → FindsValue d tokens f → e ≡ f
FindsValue_one d tokens e f h k = content_one e f (FindsContent_one (content d) tokens (content e) (content f) h k)

-- two values with one map are equal
pub nodes_one : (d e : json.Data) → HasSortedKeys d → HasSortedKeys e → nodes d ≡ nodes e → d ≡ e
nodes_one d e a b h = content_one d e (map_of_one (content d) (content e) a b h)

-- each part of a value with sorted keys has sorted keys
pub ascends_part : (w : Path) (d e : json.Data) → HasSortedKeys d → value_at w d ≡ Some (content e) → HasSortedKeys e
ascends_part w d e = part_has_sorted_keys w (content d) (content e)

-- one level of a Rust value

-- what it holds
abbrev pub content_of : Value → Content
content_of v = content (view v)

items-view : (vs : List Value) → items (items_view vs) ≡ items_by content_of vs
items-view [] = refl
items-view (v ∷ vs) = ap (item (content_of v)) (items-view vs)

members-view : (es : List (String Global × Value)) → members (members_view es) ≡ members_by content_of es
members-view [] = refl
members-view (e ∷ es) = ap (member (string_bytes e.0) (content_of e.1)) (members-view es)

-- a list of values
pub array_is : (v : Vec Value Global) → content_of (Array v) ≡ array (items_by content_of v.items)
array_is v = ap content (view-Array v) ∙ ap array (items-view v.items)

-- a map of values
pub object_is : (m : BTreeMap (String Global) Value) → content_of (Object m) ≡ object (members_by content_of m.entries)
object_is m = ap content (view-Object m) ∙ ap object (members-view m.entries)

-- every other value is a scalar

pub null_is : content_of Null ≡ scalar (of_json json.null)
null_is =
    let seen : view Null ≡ json.null = search (rules, the_lemmas) in
    ap content seen

pub bool_is : (b : Bool) → content_of (of_bool b) ≡ scalar (of_json (json.boolean b))
bool_is b =
    let seen : view (of_bool b) ≡ json.boolean b = search (rules, the_lemmas) in
    ap content seen

pub number_is : (x : Number) → content_of (of_number x) ≡ scalar (of_json (json.number (number_view x)))
number_is x =
    let seen : view (of_number x) ≡ json.number (number_view x) = search (rules, the_lemmas) in
    ap content seen

pub string_is : (s : String Global) → content_of (of_string s) ≡ scalar (of_json (json.string (string_bytes s)))
string_is s =
    let seen : view (of_string s) ≡ json.string (string_bytes s) = search (rules, the_lemmas) in
    ap content seen
