use Rattle.std.proofs.Common.{refl, arith}
use Rattle.jsonptr_patch_journal.specs.Location.{path_of, contents_of}
use Rattle.jsonptr_patch_journal.specs.Children.{array_of}
use Rattle.jsonptr_patch_journal.specs.Changes.{PutsElement}
use Rattle.jsonptr_patch_journal.proofs.ThereLemmas.{at_ok, same_at}
use Rattle.jsonptr_patch_journal.proofs.NodeLemmas.{long_here, puts_element, unchanged_array}
use Rattle.jsonptr_patch_journal.proofs.addition.insert_element.Goals as goal

pub insert-requires : goal.insert-requires
insert-requires g c =
    let vs = c.in-Some.elements.now in
    let long = long_here (path_of c.args.array.now) c.args.index (g.D.NodeMut.contents c.args.document.now) vs c.requires c.in-Some.ensures.value in
    omega (arith, long, vs.ok.0)

pub returns-clause-added : goal.returns-clause-added
returns-clause-added g c =
    let vs = c.in-Some.elements.now in let n = c.insert.new.self in
    at_ok c.insert.result (path_of c.args.array.now) (λ _. PutsElement c.args.index (contents_of c.args.value)) (g.D.NodeMut.contents c.args.document.now) _ (array_of vs) (array_of n) c.in-Some.ensures.value ((rw c.in-Some.is at (c.array_mut.follows.holds n)) refl)
    (puts_element c.insert.result vs n c.args.index c.args.value (long_here (path_of c.args.array.now) c.args.index (g.D.NodeMut.contents c.args.document.now) vs c.requires c.in-Some.ensures.value) c.insert.ensures.items)

pub returns-clause-unchanged : goal.returns-clause-unchanged
returns-clause-unchanged g c =
    let vs = c.in-Some.elements.now in let n = c.insert.new.self in
    same_at c.insert.result (path_of c.args.array.now) (g.D.NodeMut.contents c.args.document.now) _ (array_of vs) (array_of n) c.in-Some.ensures.value ((rw c.in-Some.is at (c.array_mut.follows.holds n)) refl)
    (unchanged_array c.insert.result vs n c.args.index c.args.value c.insert.ensures.items)
