use Rattle.std.proofs.Common.{ℕ, Some, ap, ◌∙◌, sym, refl}
use Rattle.jsonptr_tree.specs.Node.{an_array}
use Rattle.jsonptr_tree.specs.Expansion.{expanded}
use Rattle.jsonptr_syntax.specs.PointerText.{tokens}
use Rattle.jsonptr_walk.proofs.AssignLemmas.{lacks_place, leaf_below, object_below, array_below}
use Rattle.jsonptr_walk.proofs.put.put_child.Goals as goal

pub push_element-requires-clause-lacks : goal.push_element-requires-clause-lacks
push_element-requires-clause-lacks g c =
    let root = c.in-Array.ensures.0 ∙ ap (λ (k : ℕ). Some (an_array k)) (sym (c.len-length.ensures ∙ c.in-Array.elements.now.ok.0)) in
    λ i below. lacks_place (g.N.Document.nodes c.args.node.now) c.args.stop.now.token c.len-length.result i (g.met.N.DocumentMut.is_tree c.args.node.now) c.requires root below

pub returns-in_ok-leaf-in-Leaf-clause-assigned : goal.returns-in_ok-leaf-in-Leaf-clause-assigned
returns-in_ok-leaf-in-Leaf-clause-assigned g c =
    let nodes = g.N.Document.nodes in let n = c.args.node.now in
    leaf_below (nodes n) c.args.stop.now.token (tokens c.args.stop.now.rest) (nodes c.args.value) (g.met.N.Document.has_root n) c.requires c.in-Leaf.ensures.0 (nodes c.replace_leaf.new.node) (nodes c.in_ok-leaf-in-Leaf.leaf) c.in-Leaf.ensures.1
    c.in_ok-leaf-in-Leaf.ensures.replaced (ap nodes c.in_ok-leaf-in-Leaf.ensures.returned)

pub returns-in_ok-insert_member-in-Object-clause-assigned : goal.returns-in_ok-insert_member-in-Object-clause-assigned
returns-in_ok-insert_member-in-Object-clause-assigned g c =
    let nodes = g.N.Document.nodes in let n = c.args.node.now in
    let rest = tokens c.args.stop.now.rest in let v = nodes c.args.value in
    object_below (nodes n) c.args.stop.now.token rest v (g.met.N.Document.has_root n) c.requires c.args.stop.now.token (nodes c.insert_member.new.node) (expanded rest v) c.in-Object.ensures.0
    refl refl c.in_ok-insert_member-in-Object.ensures.inserted

pub returns-in_ok-push_element-in-Array-clause-assigned : goal.returns-in_ok-push_element-in-Array-clause-assigned
returns-in_ok-push_element-in-Array-clause-assigned g c =
    let nodes = g.N.Document.nodes in let n = c.args.node.now in
    let rest = tokens c.args.stop.now.rest in let v = nodes c.args.value in let len = c.len-length.result in
    let root = c.in-Array.ensures.0 ∙ ap (λ (k : ℕ). Some (an_array k)) (sym (c.len-length.ensures ∙ c.in-Array.elements.now.ok.0)) in
    array_below (nodes n) c.args.stop.now.token rest v (g.met.N.Document.has_root n) c.requires len (nodes c.push_element.new.node) (expanded rest v) (g.met.N.DocumentMut.is_tree n) root
    c.in_ok-push_element-in-Array.ensures.end refl (c.in_ok-push_element-in-Array.ensures.pushed len root)
