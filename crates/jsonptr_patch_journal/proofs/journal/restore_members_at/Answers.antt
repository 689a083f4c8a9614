use Rattle.std.proofs.Common.{refl}
use Rattle.jsonptr_patch_journal.specs.Location.{path_of}
use Rattle.jsonptr_patch_journal.specs.Children.{members_of, object_of}
use Rattle.jsonptr_patch_journal.specs.Changes.{IsObjectContent}
use Rattle.jsonptr_patch_journal.proofs.ThereLemmas.{changed_related, undone_at}
use Rattle.jsonptr_patch_journal.proofs.UndoLemmas.{has_after}
use Rattle.jsonptr_patch_journal.proofs.RoomLemmas.{members_back}
use Rattle.jsonptr_patch_journal.proofs.journal.restore_members_at.Goals as goal

pub unreachable-requires : goal.unreachable-requires
unreachable-requires g c = c.in-None.ensures.value (has_after (path_of c.args.object.now) _ IsObjectContent c.requires.0 (g.D.NodeMut.contents c.args.document.now) (λ b x r. (r.left, r.now)) c.requires.1)

pub restore-requires : goal.restore-requires
restore-requires g c =
    let m = c.in-Some.members.now in
    (members_back (members_of c.args.room) _ (members_of m) (changed_related (path_of c.args.object.now) _ c.requires.0 (g.D.NodeMut.contents c.args.document.now) (object_of m) c.requires.1 c.in-Some.ensures.value)).0

pub returns : goal.returns
returns g c = λ was o.
    let m = c.in-Some.members.now in let n = c.restore.new.members in
    undone_at (path_of c.args.object.now) _ was (g.D.NodeMut.contents c.args.document.now) _ (object_of m) (object_of n) o c.in-Some.ensures.value ((rw c.in-Some.is at (c.object_mut.follows.holds n)) refl)
    (λ b r. (members_back (members_of c.args.room) b (members_of m) r).1 (members_of n) c.restore.ensures)
