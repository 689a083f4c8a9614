-- Room for the children of a node, so that removed ones can be put back without an allocation.
use Rattle.std.specs.Prelude.{◌≡◌, ℕ, ◌≤◌, [], IsSome, Vec}
use Rattle.std.specs.Vec.{vec_capacity}
use Rattle.std.specs.declared.alloc.Global.{Global}
use Rattle.serde_json.specs.declared.value.Value.{Value}
use Rattle.jsonptr.specs.Text.{Text}
use Rattle.jsonptr.specs.Content.{Content, object, array, Items, items_len, Members, get_member}
use Rattle.jsonptr_patch_journal.specs.Children.{put_member, IsRoom}
use Rattle.jsonptr_patch_journal.specs.Changes.{TakesElement}

-- `LeavesRoom k room v c d`: the object `c` without its member `v` under the key `k` is `d`, and `room` is room for
-- all members of `c`
pub record LeavesRoom (k : Text) (room : Members) (v c d : Content) : Type 0 where
  pub ms : Members
  pub left : Members
  pub was : c ≡ object ms
  pub now : d ≡ object left
  pub has : IsSome (get_member k room)
  pub room_is : IsRoom (put_member k v room) left ms

-- `IsRoomOf room c`: `room` is empty, and has room for the elements of the array `c`
abbrev pub IsRoomOf : Vec Value Global → Content → Type 0
IsRoomOf room c = (ds : Items) × (c ≡ array ds) × (room.items ≡ []) × (items_len ds ≤ vec_capacity room)

-- `LeavesElementRoom i room v c d`: the array `c` without its element `v` at the index `i` is `d`, and `room` has room
-- for the elements of `c`
pub record LeavesElementRoom (i : ℕ) (room : Vec Value Global) (v c d : Content) : Type 0 where
  pub takes : TakesElement i v c d
  pub room_is : IsRoomOf room c

-- `LeavesMembers room c d`: the object `c` without some of its members is `d`, and `room` has these members, and room
-- for the others
pub record LeavesMembers (room : Members) (c d : Content) : Type 0 where
  pub ms : Members
  pub left : Members
  pub was : c ≡ object ms
  pub now : d ≡ object left
  pub room_is : IsRoom room left ms
