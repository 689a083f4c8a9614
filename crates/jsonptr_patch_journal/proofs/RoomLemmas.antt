-- Room for the members of an object, as its members are removed.
use Rattle.std.proofs.Common.{◌≡◌, IsSome, Some, Result, Ok, Err, IfOk, BTreeMap, String, Global, refl, sym, ap, ap₂, ◌∙◌, subst}
use Rattle.jsonptr.specs.Text.{Text}
use Rattle.jsonptr.specs.Node.{Path}
use Rattle.jsonptr.specs.Content.{Content, object, Members, get_member, content_at}
use Rattle.serde_json.specs.declared.value.Value.{Value}
use Rattle.jsonptr_patch_journal.specs.Children.{members_of, put_member, put_all, without_member, HasAll, IsRoom}
use Rattle.jsonptr_patch_journal.specs.Writing.{At}
use Rattle.jsonptr_patch_journal.specs.Changes.{TakesMember}
use Rattle.jsonptr_patch_journal.specs.Rooms.{LeavesRoom, LeavesMembers}
use Rattle.jsonptr_patch_journal.proofs.WritingLemmas.{write_same}
use Rattle.jsonptr_patch_journal.proofs.NodeLemmas.{one_object}
use Rattle.jsonptr_patch_journal.proofs.MembersLemmas.{has_found, room_has, room_aside}

-- room for all members of the object at a path
pub room_here : {E : Type 0} (r : Result (BTreeMap (String Global) Value) E) (p : Path) (d : Content) (ms : Members) → content_at p d ≡ Some (object ms)
    → IfOk r (λ room. IsRoom (members_of room) ms ms) → IfOk r (λ room. At p (LeavesMembers (members_of room)) d d)
room_here (Ok room) p d ms there h = record {
  old = object ms;
  new = object ms;
  there = there;
  made = sym (write_same p (object ms) d there);
  related = record { ms = ms; left = ms; was = refl; now = refl; room_is = h };
}
room_here (Err e) p d ms there h = tt

-- members put back into the object that was left without them
pub members_back : (room : Members) (b : Content) (ms : Members) → LeavesMembers room b (object ms) → HasAll ms room × ((ns : Members) → ns ≡ put_all ms room → object ns ≡ b)
members_back room b ms r =
    let one : ms ≡ r.left = one_object ms r.left r.now in
    (subst (λ (xs : Members). HasAll xs room) (sym one) r.room_is.has, λ ns is. ap object (is ∙ ap (λ (xs : Members). put_all xs room) one ∙ r.room_is.whole) ∙ sym r.was)

-- one member put into the room
pub all_left : (k : Text) (room more : Members) (v b x : Content) → more ≡ put_member k v room → LeavesRoom k room v b x → LeavesMembers more b x
all_left k room more v b x put r = record { ms = r.ms; left = r.left; was = r.was; now = r.now; room_is = subst (λ (base : Members). IsRoom base r.left r.ms) (sym put) r.room_is }

module _ (k l : Text) (v : Content) (room : Members) where
  -- the room has the key of a member that is removed
  pub taken_has : (ms : Members) (x new : Content) → l ≡ k → TakesMember l v x new → x ≡ object ms → HasAll ms room → IsSome (get_member k room)
  taken_has ms x new same t is has =
      let found : get_member k ms ≡ Some v = subst (λ (ns : Members). get_member k ns ≡ Some v) (one_object t.ms ms (sym t.object_is ∙ is)) (subst (λ (q : Text). get_member q t.ms ≡ Some v) same t.found) in
      has_found k v ms room has found

  -- a member is moved into the room
  pub set_aside_room : (more : Members) (was x new : Content) → l ≡ k → TakesMember l v x new → more ≡ put_member k v room → LeavesMembers room was x → LeavesMembers more was new
  set_aside_room more was x new same t put r =
      let one : t.ms ≡ r.left = one_object t.ms r.left (sym t.object_is ∙ r.now) in
      let found : get_member k r.left ≡ Some v = subst (λ (ns : Members). get_member k ns ≡ Some v) one (subst (λ (q : Text). get_member q t.ms ≡ Some v) same t.found) in
      record {
        ms = r.ms;
        left = without_member k r.left;
        was = r.was;
        now = t.made ∙ ap object (ap₂ without_member same one);
        room_is = subst (λ (base : Members). IsRoom base (without_member k r.left) r.ms) (sym put) (room_aside k v room r.left r.ms r.room_is found);
      }

-- a member is removed, and there is room to put it back
pub leaves_room : (k l : Text) (room : Members) (v : Content) (ms ns : Members) → l ≡ k → get_member l ms ≡ Some v → ns ≡ without_member l ms → IsRoom room ms ms → LeavesRoom k room v (object ms) (object ns)
leaves_room k l room v ms ns same found left r =
    let there : get_member k ms ≡ Some v = subst (λ (q : Text). get_member q ms ≡ Some v) same found in
    record {
      ms = ms;
      left = without_member k ms;
      was = refl;
      now = ap object left ∙ ap (λ (q : Text). object (without_member q ms)) same;
      has = room_has k v room ms ms r there;
      room_is = room_aside k v room ms ms r there;
    }
