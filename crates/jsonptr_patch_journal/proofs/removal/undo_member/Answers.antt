use Rattle.std.proofs.Common.{refl, string_bytes}
use Rattle.jsonptr_patch_journal.specs.Location.{path_of, contents_of}
use Rattle.jsonptr_patch_journal.specs.Children.{members_of, object_of}
use Rattle.jsonptr_patch_journal.specs.Changes.{IsObjectContent}
use Rattle.jsonptr_patch_journal.proofs.ThereLemmas.{changed_related, undone_at}
use Rattle.jsonptr_patch_journal.proofs.UndoLemmas.{has_after}
use Rattle.jsonptr_patch_journal.proofs.RoomLemmas.{all_left, members_back}
use Rattle.jsonptr_patch_journal.proofs.removal.undo_member.Goals as goal

pub set-requires : goal.set-requires
set-requires g c = c.requires.1.related.has

pub unreachable-requires : goal.unreachable-requires
unreachable-requires g c = c.in-None.ensures.value (has_after (path_of c.args.object.now) _ IsObjectContent c.requires.0 (g.D.NodeMut.contents c.args.document.now) (λ b x r. (r.left, r.now)) c.requires.1)

pub restore-requires : goal.restore-requires
restore-requires g c =
    let m = c.in-Some.members.now in
    let r = changed_related (path_of c.args.object.now) _ c.requires.0 (g.D.NodeMut.contents c.args.document.now) (object_of m) c.requires.1 c.in-Some.ensures.value in
    (members_back (members_of c.set.new.room) _ (members_of m) (all_left (string_bytes c.args.key) (members_of c.args.room) (members_of c.set.new.room) (contents_of c.args.value) _ _ c.set.ensures.put r)).0

pub returns : goal.returns
returns g c = λ was o.
    let m = c.in-Some.members.now in let n = c.restore.new.members in
    undone_at (path_of c.args.object.now) _ was (g.D.NodeMut.contents c.args.document.now) _ (object_of m) (object_of n) o c.in-Some.ensures.value ((rw c.in-Some.is at (c.object_mut.follows.holds n)) refl)
    (λ b r. (members_back (members_of c.set.new.room) b (members_of m) (all_left (string_bytes c.args.key) (members_of c.args.room) (members_of c.set.new.room) (contents_of c.args.value) b _ c.set.ensures.put r)).1 (members_of n) c.restore.ensures)
