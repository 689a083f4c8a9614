-- The three values at one path. Used only by private contracts; no public contract depends on this file.
use Rattle.std.specs.Prelude.{◌≡◌, ◌⊎◌, ⊤, List, ◌++◌, [], ◌∷◌, All, Contains}
use Rattle.jsonptr.specs.Text.{Text}
use Rattle.jsonptr.specs.Node.{Path, NodeMap}
use Rattle.jsonptr_patch_diff.specs.Diff.{keys}
use Rattle.jsonptr_merge.specs.Values.{map_in}
use Rattle.jsonptr_merge.specs.Merge.{AllDiffer, IsConflict, IsMerge, HasNoConflict, IsConflictAt, AreInOrder}
use Rattle.jsonptr_merge.specs.PrivateObjects.{Object, side_map, SortedSide, SortedObject, member_in}
use Rattle.jsonptr_merge.specs.declared.conflict.Conflict.{Conflict}
use Rattle.jsonptr_merge.specs.declared.sides.Settled.{Settled}
use Rattle.jsonptr_merge.specs.declared.sides.Settled.TheVariants.{To, Not}

-- `IsTaken b o t x`: `x` counts, since one copy left the base alone, or both agree
abbrev pub IsTaken : NodeMap → NodeMap → NodeMap → NodeMap → Type 0
IsTaken b o t x = ((o ≡ b) × (x ≡ t)) ⊎ (((t ≡ b) × (x ≡ o)) ⊎ ((o ≡ t) × (x ≡ o)))

-- `IsSettled b o t r`: which value counts, or that all three differ
abbrev pub IsSettled : NodeMap → NodeMap → NodeMap → Settled → Type 0
IsSettled b o t (To x) = IsTaken b o t (side_map x)
IsSettled b o t Not = AllDiffer b o t []

-- `SortedSettled r`: the keys of each object in the value that counts, if one does, are in order
abbrev pub SortedSettled : Settled → Type 0
SortedSettled (To x) = SortedSide x
SortedSettled Not = ⊤

-- `SortedObjects b o t`: the keys of the three objects, and those of each object in them, are in order
pub record SortedObjects (b o t : Object) : Type 0 where
  pub base : SortedObject b
  pub ours : SortedObject o
  pub theirs : SortedObject t

-- `Merges b o t m`: `m` is the merge, if there is no conflict
abbrev pub Merges : NodeMap → NodeMap → NodeMap → NodeMap → Type 0
Merges b o t m = HasNoConflict b o t → IsMerge b o t m

-- `MergesUnder b o t out k`: so is what `out` has under the key `k` the merge of what the three objects have there
abbrev pub MergesUnder : Object → Object → Object → Object → Text → Type 0
MergesUnder b o t out k = Merges (member_in b k) (member_in o k) (member_in t k) (member_in out k)

-- `AppendsConflict base b o t before after`: `after` is `before` and a conflict with these values at `base`
pub record AppendsConflict (base : List Text) (b o t : NodeMap) (before after : List Conflict) : Type 0 where
  pub conflict : Conflict
  pub appended : after ≡ before ++ conflict ∷ []
  pub path : conflict.path ≡ base
  pub base_is : map_in conflict.base ≡ b
  pub ours_is : map_in conflict.ours ≡ o
  pub theirs_is : map_in conflict.theirs ≡ t

-- `IsConflictBelow base b o t c`: `c` is a conflict of the three maps, which are at `base`
abbrev pub IsConflictBelow : List Text → NodeMap → NodeMap → NodeMap → Conflict → Type 0
IsConflictBelow base b o t c = (rest : List Text) × (c.path ≡ base ++ rest) × IsConflictAt b o t rest c

-- `AppendsConflicts base b o t before after`: `after` is `before` and all conflicts of the three maps, which are at `base`, in
-- order
pub record AppendsConflicts (base : List Text) (b o t : NodeMap) (before after : List Conflict) : Type 0 where
  pub further : List Conflict
  pub appended : after ≡ before ++ further
  pub real : All (IsConflictBelow base b o t) further
  pub all : (w : Path) → IsConflict b o t w
      → (c : Conflict) × Contains further c × ((rest : List Text) × (c.path ≡ base ++ rest) × (w ≡ keys rest))
  pub in_order : AreInOrder further

-- `IsConflictUnder P base b o t c`: `c` is a conflict of members of the three objects, which are at `base`, under a key that
-- meets `P`
abbrev pub IsConflictUnder : (Text → Type 0) → List Text → Object → Object → Object → Conflict → Type 0
IsConflictUnder P base b o t c =
    (k : Text) × P k × ((rest : List Text) × (c.path ≡ base ++ k ∷ rest)
    × IsConflictAt (member_in b k) (member_in o k) (member_in t k) rest c)

-- `AppendsUnder P base b o t before after`: `after` is `before` and all such conflicts, in order
pub record AppendsUnder (P : Text → Type 0) (base : List Text) (b o t : Object) (before after : List Conflict) : Type 0 where
  pub further : List Conflict
  pub appended : after ≡ before ++ further
  pub real : All (IsConflictUnder P base b o t) further
  pub all : (k : Text) → P k → (w : Path) → IsConflict (member_in b k) (member_in o k) (member_in t k) w
      → (c : Conflict) × Contains further c × ((rest : List Text) × (c.path ≡ base ++ k ∷ rest) × (w ≡ keys rest))
  pub in_order : AreInOrder further
