-- What the code that makes a merge patch inserts. Used only by private contracts; no public contract depends on this file.
use Rattle.std.specs.Prelude.{◌≡◌, ◌⊎◌, false, List, [], ◌∷◌, ◌++◌, Some, None, IsSome}
use Rattle.std.specs.BTreeMap.{get_by_text}
use Rattle.serde_json.specs.declared.value.Value.{Null}
use Rattle.jsonptr.specs.Text.{Text}
use Rattle.jsonptr.specs.Node.{Label, NodeMap}
use Rattle.jsonptr_merge.specs.Values.{IsBefore}
use Rattle.jsonptr_merge.specs.MergePatch.{is_null, patched}
use Rattle.jsonptr_merge.specs.Making.{LeadsToNewNull, IsFirstNewNull}
use Rattle.jsonptr_merge.specs.PrivateObjects.{Object, member_in}
use Rattle.jsonptr_merge.specs.declared.error.MergePatchError.{MergePatchError}
use Rattle.jsonptr_merge.specs.declared.error.MergePatchError.TheVariants.{NullMember, TooDeep}

-- `Removes before members old new`: `new` has `null` under each key of `before` that `members` does not have, where `old` has
-- nothing, and elsewhere what `old` has
pub record Removes (before members old new : Object) : Type 0 where
  pub removed : (k : Text) → IsSome (get_by_text before k) → get_by_text members k ≡ None
      → get_by_text old k ≡ None → get_by_text new k ≡ Some Null
  pub others : (k : Text) → get_by_text before k ≡ None → get_by_text new k ≡ get_by_text old k
  pub kept : (k : Text) → IsSome (get_by_text members k) → get_by_text new k ≡ get_by_text old k

-- `IsMade before k n new`: what `new` has under the key `k` turns what `before` has there into `n`: nothing, if both are the
-- same, or a patch other than `null`
abbrev pub IsMade : Object → Text → NodeMap → Object → Type 0
IsMade before k n new =
    ((get_by_text new k ≡ None) × (member_in before k ≡ n))
    ⊎ ((l : Label) × (member_in new k [] ≡ Some l) × (is_null l ≡ false) × (patched (member_in before k) (member_in new k) ≡ n))

-- `MakesChanges before members old new`: `new` has such a patch under each key of `members`, where `old` has nothing, and
-- elsewhere what `old` has
pub record MakesChanges (before members old new : Object) : Type 0 where
  pub made : (k : Text) → IsSome (get_by_text members k) → get_by_text old k ≡ None → IsMade before k (member_in members k) new
  pub others : (k : Text) → get_by_text members k ≡ None → get_by_text new k ≡ get_by_text old k

-- `IsFirstBelow base old new e`: `e` has the first new `null` below `base`, where the maps `old` and `new` are
abbrev pub IsFirstBelow : List Text → NodeMap → NodeMap → MergePatchError → Type 0
IsFirstBelow base old new (NullMember path) = (rest : List Text) × (path ≡ base ++ rest) × IsFirstNewNull old new rest
IsFirstBelow base old new TooDeep = ⊥

-- `IsFirstUnder base before members k rest`: of all new `null`s of members, the one at `rest` below the key `k` comes first
pub record IsFirstUnder (before members : Object) (k : Text) (rest : List Text) : Type 0 where
  pub leads : LeadsToNewNull (member_in before k) (member_in members k) rest
  pub first : (l : Text) (us : List Text) → LeadsToNewNull (member_in before l) (member_in members l) us
      → IsBefore (l ∷ us) (k ∷ rest) → ⊥

-- `IsFirstOfMembers base before members e`: `e` has the first new `null` of the members of the objects, which are at `base`
abbrev pub IsFirstOfMembers : List Text → Object → Object → MergePatchError → Type 0
IsFirstOfMembers base before members (NullMember path) =
    (k : Text) × (rest : List Text) × (path ≡ base ++ k ∷ rest) × IsFirstUnder before members k rest
IsFirstOfMembers base before members TooDeep = ⊥
