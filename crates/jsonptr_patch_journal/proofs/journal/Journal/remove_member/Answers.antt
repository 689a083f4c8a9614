use Rattle.std.proofs.Common.{sym, subst}
use Rattle.jsonptr.specs.Content.{Content}
use Rattle.jsonptr_patch_journal.specs.Location.{path_of}
use Rattle.jsonptr_patch_journal.specs.Children.{members_of}
use Rattle.jsonptr_patch_journal.specs.Writing.{At}
use Rattle.jsonptr_patch_journal.specs.Rooms.{LeavesMembers}
use Rattle.jsonptr_patch_journal.proofs.journal.Journal.remove_member.Goals as goal

pub set_aside_at-requires-clause-room : goal.set_aside_at-requires-clause-room
set_aside_at-requires-clause-room g c =
    let r = c.in_ok-room.ensures.left c.requires.undone.0 c.requires.undone.1 in
    (r.0, subst (λ (x : Content). At (path_of c.args.object) (LeavesMembers (members_of c.in_ok-room.room)) r.0 x) (sym c.in_ok-room.ensures.unchanged) r.2)

pub returns-clause-undone : goal.returns-clause-undone
returns-clause-undone g c = λ was u.
    let r = c.in_ok-room.ensures.left was u in
    let before = subst (λ (x : Content). At (path_of c.args.object) (LeavesMembers (members_of c.in_ok-room.room)) r.0 x) (sym c.in_ok-room.ensures.unchanged) r.2 in
    c.push.ensures was r.0 (g.D.NodeMut.contents c.set_aside_at.new.document) r.1 (c.set_aside_at.ensures.room r.0 before)
