use Rattle.std.proofs.Common.{refl, arith}
use Rattle.jsonptr_patch_journal.specs.Location.{path_of}
use Rattle.jsonptr_patch_journal.specs.Children.{array_of}
use Rattle.jsonptr_patch_journal.proofs.NodeLemmas.{within_here, takes_element}
use Rattle.jsonptr_patch_journal.proofs.addition.delete_element.Goals as goal

pub remove-requires : goal.remove-requires
remove-requires g c =
    let vs = c.in-Some.elements.now in
    let within = within_here (path_of c.args.array.now) c.args.index (g.D.NodeMut.contents c.args.document.now) vs c.requires c.in-Some.ensures.value in
    omega (arith, within, vs.ok.0)

pub returns : goal.returns
returns g c =
    let vs = c.in-Some.elements.now in let n = c.remove.new.self in
    let within = within_here (path_of c.args.array.now) c.args.index (g.D.NodeMut.contents c.args.document.now) vs c.requires c.in-Some.ensures.value in
    record {
      old = array_of vs;
      new = array_of n;
      there = c.in-Some.ensures.value;
      made = (rw c.in-Some.is at (c.array_mut.follows.holds n)) refl;
      related = takes_element vs n c.args.index c.remove.result within c.remove.ensures.value c.remove.ensures.items;
    }
