use Rattle.std.proofs.Common.{refl, arith}
use Rattle.jsonptr_patch_journal.specs.Location.{path_of}
use Rattle.jsonptr_patch_journal.specs.Children.{items_in, array_of}
use Rattle.jsonptr_patch_journal.proofs.ThereLemmas.{kept_at}
use Rattle.jsonptr_patch_journal.proofs.NodeLemmas.{within_here, takes_element, items_in-length}
use Rattle.jsonptr_patch_journal.proofs.removal.remove_element.Goals as goal

pub remove-value-requires : goal.remove-value-requires
remove-value-requires g c =
    let vs = c.in-Some.elements.now in
    let within = within_here (path_of c.args.array) c.args.index (g.D.NodeMut.contents c.args.document.now) vs c.requires c.in-Some.ensures.value in
    omega (arith, within, vs.ok.0)

pub returns-in_err-room-clause-unchanged : goal.returns-in_err-room-clause-unchanged
returns-in_err-room-clause-unchanged g c =
    let now = c.in-Some.elements.now in
    kept_at c.from_residual.result (path_of c.args.array) (g.D.NodeMut.contents c.args.document.now) _ (array_of now) c.in-Some.ensures.value ((rw c.in-Some.is at (c.array_mut.follows.holds now)) refl)

pub returns-clause-taken : goal.returns-clause-taken
returns-clause-taken g c =
    let vs = c.in-Some.elements.now in let n = c.remove-value.new.self in
    let within = within_here (path_of c.args.array) c.args.index (g.D.NodeMut.contents c.args.document.now) vs c.requires c.in-Some.ensures.value in
    record {
      old = array_of vs;
      new = array_of n;
      there = c.in-Some.ensures.value;
      made = (rw c.in-Some.is at (c.array_mut.follows.holds n)) refl;
      related = takes_element vs n c.args.index c.remove-value.result within c.remove-value.ensures.value c.remove-value.ensures.items;
    }

pub returns-clause-undone : goal.returns-clause-undone
returns-clause-undone g c =
    let vs = c.in-Some.elements.now in let n = c.remove-value.new.self in
    let within = within_here (path_of c.args.array) c.args.index (g.D.NodeMut.contents c.args.document.now) vs c.requires c.in-Some.ensures.value in
    record {
      old = array_of vs;
      new = array_of n;
      there = c.in-Some.ensures.value;
      made = (rw c.in-Some.is at (c.array_mut.follows.holds n)) refl;
      related = record {
        takes = takes_element vs n c.args.index c.remove-value.result within c.remove-value.ensures.value c.remove-value.ensures.items;
        room_is = (items_in vs.items, refl, c.in_ok-room.ensures.items, omega (arith, items_in-length vs.items, vs.ok.0, c.len.ensures, c.in_ok-room.ensures.capacity));
      };
    }
