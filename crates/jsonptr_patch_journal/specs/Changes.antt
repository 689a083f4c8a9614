-- What adding a child to a node, and removing one, makes of the node.
use Rattle.std.specs.Prelude.{◌≡◌, ℕ, ◌<◌, ◌≤◌, ◌⊎◌, [], ◌∷◌, ◌++◌, Option, Some, IsSome}
use Rattle.serde_json.specs.declared.value.Value.{Null}
use Rattle.jsonptr.specs.Text.{Text}
use Rattle.jsonptr.specs.Node.{Step, key, place, Path}
use Rattle.jsonptr.specs.Content.{Content, array, object, Items, items_len, get_item, Members, get_member, content_at}
use Rattle.jsonptr_patch_journal.specs.Location.{contents_of}
use Rattle.jsonptr_patch_journal.specs.Children.{insert_item, without_item, put_member, without_member, KeysRise}
use Rattle.jsonptr_patch_journal.specs.Writing.{At}

-- `IsThere w c`: the content `c` has a node at the path `w`
abbrev pub IsThere : Path → Content → Type 0
IsThere w c = IsSome (content_at w c)

-- `HasAt w P c`: the content `c` has a node at the path `w`, and what it contains meets `P`
abbrev pub HasAt : Path → (Content → Type 0) → Content → Type 0
HasAt w P c = (e : Content) × (content_at w c ≡ Some e) × P e

-- `IsObjectContent c`: the content `c` is that of an object
abbrev pub IsObjectContent : Content → Type 0
IsObjectContent c = (ms : Members) × (c ≡ object ms)

-- `HasMember k c`: the content `c` is that of an object with a member under the key `k`
abbrev pub HasMember : Text → Content → Type 0
HasMember k c = (ms : Members) × (c ≡ object ms) × IsSome (get_member k ms)

-- `IsArrayContent c`: the content `c` is that of an array
abbrev pub IsArrayContent : Content → Type 0
IsArrayContent c = (ds : Items) × (c ≡ array ds)

-- `HasElement i c`: the content `c` is that of an array with an element at the index `i`
abbrev pub HasElement : ℕ → Content → Type 0
HasElement i c = (ds : Items) × (c ≡ array ds) × (i < items_len ds)

-- `HasAtLeast n c`: the content `c` is that of an array of at least `n` elements
abbrev pub HasAtLeast : ℕ → Content → Type 0
HasAtLeast n c = (ds : Items) × (c ≡ array ds) × (n ≤ items_len ds)

-- `PutsMember k v c d`: the object `c` with `v` as its member under the key `k` is `d`
pub record PutsMember (k : Text) (v c d : Content) : Type 0 where
  pub ms : Members
  pub object_is : c ≡ object ms
  pub made : d ≡ object (put_member k v ms)
  pub rise : KeysRise ms

-- `TakesMember k v c d`: the object `c` has the member `v` under the key `k`, and is `d` without it
pub record TakesMember (k : Text) (v c d : Content) : Type 0 where
  pub ms : Members
  pub object_is : c ≡ object ms
  pub found : get_member k ms ≡ Some v
  pub made : d ≡ object (without_member k ms)
  pub rise : KeysRise ms

-- `PutsElement i v c d`: the array `c` with `v` inserted at the index `i` is `d`
pub record PutsElement (i : ℕ) (v c d : Content) : Type 0 where
  pub ds : Items
  pub array_is : c ≡ array ds
  pub within : i ≤ items_len ds
  pub made : d ≡ array (insert_item i v ds)

-- `TakesElement i v c d`: the array `c` has the element `v` at the index `i`, and is `d` without it
pub record TakesElement (i : ℕ) (v c d : Content) : Type 0 where
  pub ds : Items
  pub array_is : c ≡ array ds
  pub found : get_item i ds ≡ Some v
  pub made : d ≡ array (without_item i ds)

-- `SetsMember k w v c d`: the object `c` has the member `w` under the key `k`, and is `d` with `v` instead of it
pub record SetsMember (k : Text) (w v c d : Content) : Type 0 where
  pub ms : Members
  pub object_is : c ≡ object ms
  pub found : get_member k ms ≡ Some w
  pub made : d ≡ object (put_member k v ms)

-- `ReplacesContent w v c d`: `v` instead of `c`, which is `w`, is `d`
abbrev pub ReplacesContent : Content → Content → Content → Content → Type 0
ReplacesContent w v c d = (c ≡ w) × (d ≡ v)

-- `TakesChild s v c d`: the node `c` has the child `v` at the step `s`, and is `d` without it
abbrev pub TakesChild : Step → Content → Content → Content → Type 0
TakesChild (key k) v c d = TakesMember k v c d
TakesChild (place i) v c d = TakesElement i v c d

-- `AddsMember k old v c d`: the object `c` with `v` under the key `k` is `d`, and `old` is the member that was there
pub record AddsMember (k : Text) (old : Option Content) (v c d : Content) : Type 0 where
  pub puts : PutsMember k v c d
  pub old_is : get_member k puts.ms ≡ old

-- `Writes v c d`: `v` instead of `c` is `d`
abbrev pub Writes : Content → Content → Content → Type 0
Writes v c d = d ≡ v

-- `TakesAt w v c d`: the content `c` has the node `v` at the path `w`, and is `d` without it. Without its root it is
-- `null`
abbrev pub TakesAt : Path → Content → Content → Content → Type 0
TakesAt w v c d =
    ((w ≡ []) × (c ≡ v) × (d ≡ contents_of Null))
    ⊎ ((u : Path) × (s : Step) × (w ≡ u ++ s ∷ []) × At u (TakesChild s v) c d)
