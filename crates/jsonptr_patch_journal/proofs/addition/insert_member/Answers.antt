use Rattle.std.proofs.Common.{option_map, string_bytes, refl}
use Rattle.jsonptr_patch_journal.specs.Location.{path_of, contents_of}
use Rattle.jsonptr_patch_journal.specs.Children.{members_of, object_of}
use Rattle.jsonptr_patch_journal.specs.Changes.{AddsMember}
use Rattle.jsonptr_patch_journal.proofs.NodeLemmas.{adds_member, unchanged_object}
use Rattle.jsonptr_patch_journal.proofs.ThereLemmas.{at_ok, same_at}
use Rattle.jsonptr_patch_journal.proofs.addition.insert_member.Goals as goal

pub returns-clause-added : goal.returns-clause-added
returns-clause-added g c =
    let m = c.in-Some.members.now in let n = c.insert.new.members in let k = string_bytes c.args.key in let v = contents_of c.args.value in
    at_ok c.insert.result (path_of c.args.object.now) (λ old. AddsMember k (option_map contents_of old) v) (g.D.NodeMut.contents c.args.document.now) _ (object_of m) (object_of n) c.in-Some.ensures.value ((rw c.in-Some.is at (c.object_mut.follows.holds n)) refl)
    (adds_member c.insert.result k v (object_of m) (object_of n) (members_of m) (members_of n) refl refl c.insert.ensures.rise c.insert.ensures.put c.insert.ensures.old)

pub returns-clause-unchanged : goal.returns-clause-unchanged
returns-clause-unchanged g c =
    let m = c.in-Some.members.now in let n = c.insert.new.members in
    same_at c.insert.result (path_of c.args.object.now) (g.D.NodeMut.contents c.args.document.now) _ (object_of m) (object_of n) c.in-Some.ensures.value ((rw c.in-Some.is at (c.object_mut.follows.holds n)) refl)
    (unchanged_object c.insert.result (object_of m) (object_of n) (members_of m) (members_of n) refl refl c.insert.ensures.unchanged)
