-- Objects and their members. Used only by private contracts; no public contract depends on this file.
use Rattle.std.specs.Prelude.{◌≡◌, ◌⊎◌, [], String, Option, Some, None, IsSome, ⊤}
use Rattle.std.specs.Borrow.{Bor}
use Rattle.std.specs.BTreeMap.{BTreeMap, get_by_text}
use Rattle.std.specs.Map.{update}
use Rattle.std.specs.Str.{bytes_eq}
use Rattle.std.specs.declared.alloc.Global.{Global}
use Rattle.serde_json.specs.View.{view}
use Rattle.serde_json.specs.declared.value.Value.{Value, Object as an_object_of}
use Rattle.jsonptr.specs.Json.{nodes, HasSortedKeys}
use Rattle.jsonptr.specs.Text.{Text}
use Rattle.jsonptr.specs.Node.{an_object, NodeMap}
use Rattle.jsonptr_merge.specs.Values.{no_value, map_in}
use Rattle.jsonptr_merge.specs.MergePatch.{by_patch, patched}

abbrev pub Object : Type 0
Object = BTreeMap (String Global) Value

-- `object_map m`: the map of the object `m`
abbrev pub object_map : Object → NodeMap
object_map m = nodes (view (an_object_of m))

-- `SortedObject m`: the keys of `m`, and those of each object in it, are in order
abbrev pub SortedObject : Object → Type 0
SortedObject m = HasSortedKeys (view (an_object_of m))

-- `side_map o`: the map of the value that `o` borrows, if it exists
abbrev pub side_map : Option (Bor Value) → NodeMap
side_map None = no_value
side_map (Some v) = nodes (view v.now)

-- `SortedSide o`: the keys of each object in the value that `o` borrows, if it exists, are in order
abbrev pub SortedSide : Option (Bor Value) → Type 0
SortedSide None = ⊤
SortedSide (Some v) = HasSortedKeys (view v.now)

-- `member_in m k`: the map of the member of `m` under the key `k`, if it exists
abbrev pub member_in : Object → Text → NodeMap
member_in m k = map_in (get_by_text m k)

-- `changed n p`: what the member `p` of a merge patch makes of the member `n`: nothing if it is `null` or does not exist
abbrev pub changed : NodeMap → NodeMap → NodeMap
changed n p = λ w. by_patch (Some an_object) (p []) None (patched n p w) None

-- `InsertsSome old new k o`: `new` is `old` with `o` under the key `k`, if it is a value
abbrev pub InsertsSome : Object → Object → Text → Option Value → Type 0
InsertsSome old new k None = (q : Text) → get_by_text new q ≡ get_by_text old q
InsertsSome old new k (Some v) = (q : Text) → get_by_text new q ≡ update bytes_eq (get_by_text old) k (Some v) q

-- `HasKeysOf members old new`: `new` has the keys of `members` and of `old`
abbrev pub HasKeysOf : Object → Object → Object → Type 0
HasKeysOf members old new = (k : Text) → IsSome (get_by_text members k) ⊎ IsSome (get_by_text old k) → IsSome (get_by_text new k)

-- `HasKeysOfAll b o t keys`: `keys` has the keys of all three objects
abbrev pub HasKeysOfAll : Object → Object → Object → Object → Type 0
HasKeysOfAll b o t keys =
    (k : Text) → (IsSome (get_by_text b k) ⊎ (IsSome (get_by_text o k) ⊎ IsSome (get_by_text t k))) → IsSome (get_by_text keys k)

-- `KeepsMembers members changes old new`: `new` has the members of `members` that `changes` does not have, where `old` has
-- none. Under a key of `changes` it has what `old` has
pub record KeepsMembers (members changes old new : Object) : Type 0 where
  pub kept : (k : Text) → get_by_text changes k ≡ None → get_by_text old k ≡ None → member_in new k ≡ member_in members k
  pub others : (k : Text) → IsSome (get_by_text changes k) → get_by_text new k ≡ get_by_text old k

-- `ChangesMembers members changes old new`: where `old` has nothing, `new` has what `changes` makes of `members`. Under a
-- key that `changes` does not have, it has what `old` has
pub record ChangesMembers (members changes old new : Object) : Type 0 where
  pub changed : (k : Text) → get_by_text old k ≡ None → member_in new k ≡ changed (member_in members k) (member_in changes k)
  pub others : (k : Text) → get_by_text changes k ≡ None → get_by_text new k ≡ get_by_text old k
