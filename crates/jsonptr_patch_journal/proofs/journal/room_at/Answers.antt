use Rattle.std.proofs.Common.{refl, ◌∙◌}
use Rattle.jsonptr_patch_journal.specs.Location.{path_of}
use Rattle.jsonptr_patch_journal.specs.Children.{members_of, object_of}
use Rattle.jsonptr_patch_journal.proofs.WritingLemmas.{write_same}
use Rattle.jsonptr_patch_journal.proofs.RoomLemmas.{room_here}
use Rattle.jsonptr_patch_journal.proofs.journal.room_at.Goals as goal

pub returns-clause-room : goal.returns-clause-room
returns-clause-room g c = room_here c.room_for.result (path_of c.args.object.now) (g.D.NodeMut.contents c.args.document.now) (members_of c.in-Some.members.now) c.in-Some.ensures.value c.room_for.ensures

pub returns-clause-unchanged : goal.returns-clause-unchanged
returns-clause-unchanged g c =
    let m = c.in-Some.members.now in
    (rw c.in-Some.is at (c.object_mut.follows.holds m)) refl ∙ write_same (path_of c.args.object.now) (object_of m) (g.D.NodeMut.contents c.args.document.now) c.in-Some.ensures.value
