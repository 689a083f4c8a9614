use Rattle.std.proofs.Common.{◌∷◌, option_map, refl}
use Rattle.jsonptr_tree.specs.Assigning.{Assigns}
use Rattle.jsonptr_syntax.specs.PointerText.{tokens}
use Rattle.jsonptr_walk.specs.Putting.{AssignsValue}
use Rattle.jsonptr_walk.proofs.AssignBelow.{begins_there, leads_there, stops, lacks_there, assigned_below, refused_below, nowhere_below, plain_before, stood, answered, refused_all}
use Rattle.jsonptr_walk.proofs.put.put_missing.Goals as goal

pub unreachable-requires : goal.unreachable-requires
unreachable-requires g c = begins_there c.requires c.in_default.ensures

pub unreachable-requires-in-Err-Refused : goal.unreachable-requires-in-Err-Refused
unreachable-requires-in-Err-Refused g c = leads_there c.requires (tokens c.in-Some.front) c.in-Some.token (tokens c.in-Some.rest) c.in-Some.ensures c.in-Err-Refused.field-0-0 (rw c.in-Err-Refused.field-0-is at c.in-Err-Refused.ensures.value.1)

pub put_child-requires : goal.put_child-requires
put_child-requires g c = lacks_there c.requires (tokens c.in-Some.front) c.in-Some.token (tokens c.in-Some.rest) c.in-Some.ensures c.in-Ok.ensures.value.0

pub returns-in-Ok-clause-assigned : goal.returns-in-Ok-clause-assigned
returns-in-Ok-clause-assigned g c =
    let leads = c.in-Ok.ensures.value.0 in let d = c.args.document.now in let w = c.put_child.new.node in let inner = g.D.Node.Document.nodes in
    let front = tokens c.in-Some.front in let x = c.in-Some.token in let rest = tokens c.in-Some.rest in let b = c.in-Some.ensures in
    let puts = (rw c.in-Ok.is at (c.descend.follows.holds w)).0 refl in
    answered c.put_child.result (λ o. Assigns (inner c.in-Ok.node.now) (x ∷ rest) (inner c.args.value) (inner w) (option_map inner o))
    (λ o. AssignsValue (g.D.Document.nodes d) (tokens c.args.route) (inner c.args.value) (g.D.Document.nodes (c.descend.follows.lender w)) inner (g.D.Descend.finds d) o)
    c.in-Ok.node.now
    (λ o assigned back. record {
      assigned = assigned_below c.requires front x rest b leads (inner c.args.value) (inner w) _ (option_map inner o) puts assigned;
      returned = λ e is. stood (g.D.Descend.finds d) c.in-Ok.node.now e (back e is) (stops c.requires front x rest b leads) (g.met.D.Descend.found_at d front leads.path c.in-Ok.node.now leads.named leads.there);
    })
    c.put_child.ensures.assigned c.put_child.ensures.returned

pub returns-in-Ok-clause-refused : goal.returns-in-Ok-clause-refused
returns-in-Ok-clause-refused g c =
    refused_all c.put_child.result _ _ (λ e r. refused_below c.requires (tokens c.in-Some.front) c.in-Some.token (tokens c.in-Some.rest) c.in-Some.ensures c.in-Ok.ensures.value.0 e r) c.put_child.ensures.refused

pub returns-in-Ok-clause-no_memory : goal.returns-in-Ok-clause-no_memory
returns-in-Ok-clause-no_memory g c = λ needs.
    let none = nowhere_below c.requires (tokens c.in-Some.front) c.in-Some.token (tokens c.in-Some.rest) c.in-Some.ensures c.in-Ok.ensures.value.0 needs in
    c.put_child.ensures.no_memory none.0 none.1 none.2

pub returns-clause-no_memory : goal.returns-clause-no_memory
returns-clause-no_memory g c = λ needs. (rw c.in-Err-Memory.field-0-is at c.in-Err-Memory.ensures.value.2) (plain_before (tokens c.args.route) (tokens c.in-Some.front) c.in-Some.token (tokens c.in-Some.rest) c.in-Some.ensures needs.plain)
