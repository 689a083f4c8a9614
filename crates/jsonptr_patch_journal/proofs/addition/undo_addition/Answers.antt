use Rattle.std.proofs.Common.{IsSome, Option, sym, subst, refl}
use Rattle.jsonptr.specs.Content.{Content}
use Rattle.jsonptr_patch_journal.specs.Location.{path_of, contents_of}
use Rattle.jsonptr_patch_journal.specs.Changes.{HasElement, PutsElement}
use Rattle.jsonptr_patch_journal.proofs.ThereLemmas.{changed_there}
use Rattle.jsonptr_patch_journal.proofs.UndoLemmas.{has_after, undone_by, node_undone, element_has, element_undone}
use Rattle.jsonptr_patch_journal.proofs.addition.undo_addition.Goals as goal

pub replace_node-requires : goal.replace_node-requires
replace_node-requires g c =
    let o = rw c.in-Replaced.is at c.requires.2 in
    subst (λ (x : Option Content). IsSome x) (sym (changed_there (path_of c.in-Replaced.location) _ c.requires.1 (g.D.NodeMut.contents c.args.document.now) o)) refl

pub delete_element-requires : goal.delete_element-requires
delete_element-requires g c =
    let o = rw c.in-Element.is at c.requires.2 in
    has_after (path_of c.in-Element.array) (PutsElement c.in-Element.index c.requires.0) (HasElement c.in-Element.index) c.requires.1 (g.D.NodeMut.contents c.args.document.now) (element_has c.in-Element.index c.requires.0) o

pub returns-in-Replaced : goal.returns-in-Replaced
returns-in-Replaced g c = λ v was a.
    let o = rw c.in-Replaced.is at a in
    undone_by (path_of c.in-Replaced.location) _ _ v (contents_of c.replace_node.result) was (g.D.NodeMut.contents c.args.document.now) (g.D.NodeMut.contents c.replace_node.new.document)
    (node_undone (contents_of c.in-Replaced.old) v (contents_of c.replace_node.result)) o c.replace_node.ensures

pub returns-in-Element : goal.returns-in-Element
returns-in-Element g c = λ v was a.
    let o = rw c.in-Element.is at a in
    undone_by (path_of c.in-Element.array) _ _ v (contents_of c.delete_element.result) was (g.D.NodeMut.contents c.args.document.now) (g.D.NodeMut.contents c.delete_element.new.document)
    (element_undone c.in-Element.index v (contents_of c.delete_element.result)) o c.delete_element.ensures
