use Rattle.std.proofs.Common.{option_map, string_bytes, refl}
use Rattle.jsonptr_patch_journal.specs.Location.{path_of, contents_of}
use Rattle.jsonptr_patch_journal.specs.Changes.{HasMember}
use Rattle.jsonptr_patch_journal.proofs.UndoLemmas.{has_after, undone_by, member_has, member_undone, member_unset}
use Rattle.jsonptr_patch_journal.proofs.addition.undo_member.Goals as goal

pub delete_member-requires : goal.delete_member-requires
delete_member-requires g c = has_after (path_of c.args.object.now) _ (HasMember c.as_str.result.now) c.requires.1 (g.D.NodeMut.contents c.args.document.now)
    (member_has (string_bytes c.args.key) c.as_str.result.now c.as_str.ensures.value (option_map contents_of c.args.old) c.requires.0) c.requires.2

pub set_member-requires : goal.set_member-requires
set_member-requires g c = has_after (path_of c.args.object.now) _ (HasMember (string_bytes c.args.key)) c.requires.1 (g.D.NodeMut.contents c.args.document.now)
    (member_has (string_bytes c.args.key) (string_bytes c.args.key) refl (option_map contents_of c.args.old) c.requires.0) c.requires.2

pub returns-in-None : goal.returns-in-None
returns-in-None g c = λ v was o.
    undone_by (path_of c.args.object.now) _ _ v (contents_of c.delete_member.result) was (g.D.NodeMut.contents c.args.document.now) (g.D.NodeMut.contents c.delete_member.new.document)
    (λ b x new r t. member_undone (string_bytes c.args.key) c.as_str.result.now c.as_str.ensures.value v (contents_of c.delete_member.result) b x new (rw c.in-None.is at r) t) o c.delete_member.ensures

pub returns-in-Some : goal.returns-in-Some
returns-in-Some g c = λ v was o.
    undone_by (path_of c.args.object.now) _ _ v (contents_of c.set_member.result) was (g.D.NodeMut.contents c.args.document.now) (g.D.NodeMut.contents c.set_member.new.document)
    (λ b x new r t. member_unset (string_bytes c.args.key) (contents_of c.in-Some.old) v (contents_of c.set_member.result) b x new (rw c.in-Some.is at r) t) o c.set_member.ensures
