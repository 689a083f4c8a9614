use Rattle.std.proofs.Common.{◌≡◌, refl, ap, ◌∙◌, subst}
use Rattle.jsonptr_tree.specs.Node.{NodeMap}
use Rattle.jsonptr_tree.proofs.LandingLemmas.{stops_named}
use Rattle.jsonptr_syntax.specs.PointerText.{tokens}
use Rattle.jsonptr_walk.specs.Follow.{PutsAt}
use Rattle.jsonptr_walk.proofs.AssignBelow.{assigned_named, stood}
use Rattle.jsonptr_walk.proofs.put.swap_at.Goals as goal

pub returns-clause-swapped : goal.returns-clause-swapped
returns-clause-swapped g c =
    let leads = c.in_ok-node.ensures.value.0 in let d = c.args.document.now in let w = c.swap.new.x in let inner = g.D.Node.Document.nodes in let all = tokens c.args.args.now.route in let v = c.args.value.now in
    let puts = (rw (c.in_ok-node.was {u = tt}) at (c.descend.follows.holds w)).0 refl in
    let here : PutsAt (g.D.Document.nodes d) all (inner v) (g.D.Document.nodes (c.descend.follows.lender w)) = subst (λ (m : NodeMap). PutsAt (g.D.Document.nodes d) all m (g.D.Document.nodes (c.descend.follows.lender w))) (ap inner c.swap.ensures.x_after) puts in
    record {
      assigned = assigned_named leads (inner v) _ (inner c.swap.new.y) (ap inner c.swap.ensures.y_after) here;
      returned = λ e is.
          let same : e ≡ c.swap.new.y = cc in
          stood (g.D.Descend.finds d) c.in_ok-node.node.now e (same ∙ c.swap.ensures.y_after) (stops_named (g.D.Document.nodes d) all leads.path leads.named) (g.met.D.Descend.found_at d all leads.path c.in_ok-node.node.now leads.named leads.there);
    }
