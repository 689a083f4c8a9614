-- Which values are the same. Used only by private contracts; no public contract depends on this file.
use Rattle.std.specs.Prelude.{◌≡◌, ℕ, ◌+◌, ◌<◌, ◌≤◌, List, length, slice_index_or, Option, Some, None, ⊤}
use Rattle.std.specs.BTreeMap.{get_by_text}
use Rattle.serde_json.specs.View.{view}
use Rattle.serde_json.specs.declared.value.Value.{Value}
use Rattle.jsonptr.specs.Json.{nodes}
use Rattle.jsonptr.specs.Text.{Text}
use Rattle.jsonptr.specs.Node.{Path, NodeMap}
use Rattle.jsonptr_patch.specs.PrivateTesting.{Object}

-- `IsTwin n m`: the maps are the same, path by path
abbrev pub IsTwin : NodeMap → NodeMap → Type 0
IsTwin n m = (w : Path) → n w ≡ m w

-- `IsSame v w`: the values have the same map
abbrev pub IsSame : Value → Value → Type 0
IsSame v w = IsTwin (nodes (view v)) (nodes (view w))

-- `SameElements vs ws`: there are as many elements in `vs` as in `ws`, and they are the same
abbrev pub SameElements : List Value → List Value → Type 0
SameElements vs ws =
    (length vs ≡ length ws)
    × ((i : ℕ) (x : Value) → i < length vs
    → IsSame (slice_index_or vs i x) (slice_index_or ws i x))

-- `SameMember o p`: neither value exists, or they are the same
abbrev pub SameMember : Option Value → Option Value → Type 0
SameMember None None = ⊤
SameMember (Some v) (Some w) = IsSame v w
SameMember o p = ⊥

-- `SameMembers m n`: the objects have the same members under each key
abbrev pub SameMembers : Object → Object → Type 0
SameMembers m n = (k : Text) → SameMember (get_by_text m k) (get_by_text n k)

-- `AreSameFrom vs i ws j n`: the `n` elements of `vs` from index `i` are the same as those of `ws` from index `j`
abbrev pub AreSameFrom : List Value → ℕ → List Value → ℕ → ℕ → Type 0
AreSameFrom vs i ws j n =
    (k : ℕ) (x y : Value) → k < n → IsSame (slice_index_or vs (i + k) x) (slice_index_or ws (j + k) y)

-- `SameSuffix vs ws n`: the last `n` elements of both lists are the same, counted from the end
pub record SameSuffix (vs ws : List Value) (n : ℕ) : Type 0 where
  pub within_first : n ≤ length vs
  pub within_second : n ≤ length ws
  pub same : (j a b : ℕ) (x : Value)
      → j < n → a + j + 1 ≡ length vs → b + j + 1 ≡ length ws
      → IsSame (slice_index_or vs a x) (slice_index_or ws b x)
