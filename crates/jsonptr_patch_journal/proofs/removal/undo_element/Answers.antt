use Rattle.std.proofs.Common.{refl}
use Rattle.jsonptr_patch_journal.specs.Location.{path_of}
use Rattle.jsonptr_patch_journal.specs.Children.{without_item, array_of}
use Rattle.jsonptr_patch_journal.specs.Changes.{IsArrayContent}
use Rattle.jsonptr_patch_journal.proofs.ThereLemmas.{changed_related, undone_at}
use Rattle.jsonptr_patch_journal.proofs.UndoLemmas.{has_after}
use Rattle.jsonptr_patch_journal.proofs.NodeLemmas.{index_left, room_left, elements_back}
use Rattle.jsonptr_patch_journal.proofs.removal.undo_element.Goals as goal

pub unreachable-requires : goal.unreachable-requires
unreachable-requires g c = c.in-None.ensures.value (has_after (path_of c.args.array.now) _ IsArrayContent c.requires.0 (g.D.NodeMut.contents c.args.document.now) (λ b x r. (without_item c.args.index r.takes.ds, r.takes.made)) c.requires.1)

pub put_back-requires-clause-index : goal.put_back-requires-clause-index
put_back-requires-clause-index g c =
    let vs = c.in-Some.elements.now in
    index_left c.args.index c.args.room c.args.value _ vs (changed_related (path_of c.args.array.now) _ c.requires.0 (g.D.NodeMut.contents c.args.document.now) (array_of vs) c.requires.1 c.in-Some.ensures.value)

pub put_back-requires-clause-room : goal.put_back-requires-clause-room
put_back-requires-clause-room g c =
    let vs = c.in-Some.elements.now in
    room_left c.args.index c.args.room c.args.value _ vs (changed_related (path_of c.args.array.now) _ c.requires.0 (g.D.NodeMut.contents c.args.document.now) (array_of vs) c.requires.1 c.in-Some.ensures.value)

pub returns : goal.returns
returns g c = λ was o.
    let vs = c.in-Some.elements.now in let ws = c.put_back.new.elements in
    undone_at (path_of c.args.array.now) _ was (g.D.NodeMut.contents c.args.document.now) _ (array_of vs) (array_of ws) o c.in-Some.ensures.value ((rw c.in-Some.is at (c.array_mut.follows.holds ws)) refl)
    (λ b r. elements_back c.args.index c.args.room c.args.value b vs r ws c.put_back.ensures)
