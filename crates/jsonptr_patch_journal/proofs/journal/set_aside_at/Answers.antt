use Rattle.std.proofs.Common.{string_bytes, refl, subst}
use Rattle.jsonptr.specs.Text.{Text}
use Rattle.jsonptr_patch_journal.specs.Location.{path_of, contents_of}
use Rattle.jsonptr_patch_journal.specs.Children.{members_of, object_of}
use Rattle.jsonptr_patch_journal.specs.Changes.{TakesMember}
use Rattle.jsonptr_patch_journal.proofs.ThereLemmas.{changed_again, changed_related}
use Rattle.jsonptr_patch_journal.proofs.NodeLemmas.{takes_member}
use Rattle.jsonptr_patch_journal.proofs.RoomLemmas.{taken_has, set_aside_room}
use Rattle.jsonptr_patch_journal.proofs.journal.set_aside_at.Goals as goal

pub set-requires : goal.set-requires
set-requires g c =
    let m = c.in-Some.members.now in let n = c.remove-value.new.members in
    let takes = takes_member c.as_str.result.now (contents_of c.remove-value.result) (members_of m) (members_of n) c.remove-value.ensures.found c.remove-value.ensures.removed c.remove-value.ensures.rise in
    let r = changed_related (path_of c.args.object.now) _ c.requires.room.0 (g.D.NodeMut.contents c.args.document.now) (object_of m) c.requires.room.1 c.in-Some.ensures.value in
    taken_has (string_bytes c.args.key) c.as_str.result.now (contents_of c.remove-value.result) (members_of c.args.room.now) r.left (object_of m) (object_of n) c.as_str.ensures.value takes r.now r.room_is.has

pub returns-clause-taken : goal.returns-clause-taken
returns-clause-taken g c =
    let m = c.in-Some.members.now in let n = c.remove-value.new.members in let v = contents_of c.remove-value.result in
    let takes = takes_member c.as_str.result.now v (members_of m) (members_of n) c.remove-value.ensures.found c.remove-value.ensures.removed c.remove-value.ensures.rise in (
      v,
      record {
        old = object_of m;
        new = object_of n;
        there = c.in-Some.ensures.value;
        made = (rw c.in-Some.is at (c.object_mut.follows.holds n)) refl;
        related = subst (λ (k : Text). TakesMember k v (object_of m) (object_of n)) c.as_str.ensures.value takes;
      },
    )

pub returns-clause-room : goal.returns-clause-room
returns-clause-room g c = λ was o.
    let p = path_of c.args.object.now in let d = g.D.NodeMut.contents c.args.document.now in
    let m = c.in-Some.members.now in let n = c.remove-value.new.members in
    let takes = takes_member c.as_str.result.now (contents_of c.remove-value.result) (members_of m) (members_of n) c.remove-value.ensures.found c.remove-value.ensures.removed c.remove-value.ensures.rise in
    changed_again p _ _ was d _ (object_of n) o ((rw c.in-Some.is at (c.object_mut.follows.holds n)) refl)
    (set_aside_room (string_bytes c.args.key) c.as_str.result.now (contents_of c.remove-value.result) (members_of c.args.room.now) (members_of c.set.new.room) o.old (object_of m) (object_of n) c.as_str.ensures.value takes c.set.ensures.put
    (changed_related p _ was d (object_of m) o c.in-Some.ensures.value))
