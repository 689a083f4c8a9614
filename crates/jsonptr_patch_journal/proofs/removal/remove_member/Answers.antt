use Rattle.std.proofs.Common.{refl, string_bytes}
use Rattle.jsonptr_patch_journal.specs.Location.{path_of, contents_of}
use Rattle.jsonptr_patch_journal.specs.Children.{members_of, object_of}
use Rattle.jsonptr_patch_journal.proofs.ThereLemmas.{kept_at}
use Rattle.jsonptr_patch_journal.proofs.RoomLemmas.{leaves_room}
use Rattle.jsonptr_patch_journal.proofs.removal.remove_member.Goals as goal

pub returns-in_err-room-clause-unchanged : goal.returns-in_err-room-clause-unchanged
returns-in_err-room-clause-unchanged g c =
    let now = c.in-Some.members.now in
    kept_at c.from_residual.result (path_of c.args.object) (g.D.NodeMut.contents c.args.document.now) _ (object_of now) c.in-Some.ensures.value ((rw c.in-Some.is at (c.object_mut.follows.holds now)) refl)

pub returns-clause-undone : goal.returns-clause-undone
returns-clause-undone g c =
    let m = c.in-Some.members.now in let n = c.remove-value.new.members in
    record {
      old = object_of m;
      new = object_of n;
      there = c.in-Some.ensures.value;
      made = (rw c.in-Some.is at (c.object_mut.follows.holds n)) refl;
      related = leaves_room (string_bytes c.args.key) c.as_str.result.now (members_of c.in_ok-room.room) (contents_of c.remove-value.result) (members_of m) (members_of n) c.as_str.ensures.value c.remove-value.ensures.found c.remove-value.ensures.removed c.in_ok-room.ensures;
    }
