-- The value that arrays and objects make that are copied in part.
use Rattle.std.specs.Prelude.{◌≡◌, ℕ, ◌+◌, ◌*◌, List, [], ◌∷◌, ◌++◌, string_bytes, ⊤}
use Rattle.std.specs.List.Sorted.{IsStrictlySortedBy}
use Rattle.std.specs.Map.{keys_of}
use Rattle.std.specs.String.{string_cmp}
use Rattle.serde_json.specs.Data.{Data, array, object, Items, no_items, item, Members, no_members, member}
use Rattle.serde_json.specs.View.{view, items_view, members_view}
use Rattle.serde_json.proofs.Views.{Entry}
use Rattle.jsonptr_value.specs.Lengths.{elements_length, members_length, token_count}
use Rattle.jsonptr_value.specs.declared.partial.PartialCopy.{PartialCopy}
use Rattle.jsonptr_value.specs.declared.partial.PartialCopy.TheVariants.{Elements, Members as SomeMembers}
use Rattle.jsonptr_value.specs.declared.partial.Step.{Step}
use Rattle.jsonptr_value.specs.declared.partial.Step.TheVariants.{Copy, Attach}

abbrev pub join_items : Items → Items → Items
join_items no_items more = more
join_items (item d ds) more = item d (join_items ds more)

abbrev pub join_members : Members → Members → Members
join_members no_members more = more
join_members (member k d ms) more = member k d (join_members ms more)

-- `filled partial d`: the array or object, with `d` for the child that is copied now
abbrev pub filled : PartialCopy → Data → Data
filled (Elements copies left) d = array (join_items (items_view copies.items) (item d (items_view left.now)))
filled (SomeMembers copies key left) d = object (join_members (members_view copies.entries) (member (string_bytes key.now) d (members_view left)))

-- `completed partial d`: the value that each of `partial` makes of the next one, and the last one of `d`
abbrev pub completed : List PartialCopy → Data → Data
completed [] d = d
completed (h ∷ hs) d = filled h (completed hs d)

abbrev pub data_of : Step → Data
data_of (Copy v) = view v.now
data_of (Attach v) = view v

-- `IsPrefix copies left`: the members `copies` have the keys that stand before those of `left` in an object
abbrev pub IsPrefix : List Entry → List Entry → Type 0
IsPrefix copies left =
    (done : List Entry)
    × (members_view copies ≡ members_view done)
    × IsStrictlySortedBy string_cmp (keys_of (done ++ left))

-- `IsPartial partial`: in an object, the copies and the key have the keys that stand before those that are left
abbrev pub IsPartial : PartialCopy → Type 0
IsPartial (Elements copies left) = ⊤
IsPartial (SomeMembers copies key left) =
    (done : List Entry) × (now : Entry)
    × (members_view copies.entries ≡ members_view done)
    × (string_bytes key.now ≡ string_bytes now.0)
    × IsStrictlySortedBy string_cmp (keys_of (done ++ now ∷ left))

abbrev pub ArePartial : List PartialCopy → Type 0
ArePartial [] = ⊤
ArePartial (h ∷ hs) = IsPartial h × ArePartial hs

-- ---- what is left to do

abbrev pub partial_length : PartialCopy → ℕ
partial_length (Elements copies left) = 2 * elements_length left.now
partial_length (SomeMembers copies key left) = 2 * members_length left

abbrev pub copies_length : List PartialCopy → ℕ
copies_length [] = 0
copies_length (h ∷ hs) = partial_length h + copies_length hs

abbrev pub step_length : Step → ℕ
step_length (Copy v) = 2 * token_count (view v.now)
step_length (Attach v) = 1
