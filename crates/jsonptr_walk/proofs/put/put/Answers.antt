use Rattle.std.proofs.Common.{[], refl, sym, ap, subst}
use Rattle.jsonptr_syntax.specs.PointerText.{tokens}
use Rattle.jsonptr_walk.specs.Putting.{NeedsNothing}
use Rattle.jsonptr_walk.proofs.AssignBelow.{stops_there, assigned_on}
use Rattle.jsonptr_walk.proofs.put.put.Goals as goal

pub put_missing-requires : goal.put_missing-requires
put_missing-requires g c =
    let d = c.args.document.now in let e = c.swap_at.new.document in let stop = c.in-Err-Refused.stop in
    let same = g.met.D.Document.is_sub d e [] c.in-Err-Refused.ensures.unchanged.0 in
    stops_there (g.D.Document.nodes d) (g.D.Document.nodes e) (tokens c.args.route) stop stop.offset same refl (rw c.in-Err-Refused.field-0-is at c.in-Err-Refused.ensures.refused)

pub returns-in-Err-Refused-clause-assigned : goal.returns-in-Err-Refused-clause-assigned
returns-in-Err-Refused-clause-assigned g c =
    let d = c.args.document.now in let e = c.swap_at.new.document in let told = c.in-Err-Refused.ensures.unchanged in let inner = g.D.Node.Document.nodes in
    assigned_on (tokens c.args.route) (g.D.Document.nodes c.put_missing.new.document) inner c.put_missing.result (g.met.D.Document.is_sub d e [] told.0) (ap inner told.1) (λ ts f. g.met.D.Descend.found_on d e ts f told.0) c.put_missing.ensures.assigned

pub returns-in-Err-Refused-clause-no_memory : goal.returns-in-Err-Refused-clause-no_memory
returns-in-Err-Refused-clause-no_memory g c = λ needs.
    let same = g.met.D.Document.is_sub c.args.document.now c.swap_at.new.document [] c.in-Err-Refused.ensures.unchanged.0 in
    c.put_missing.ensures.no_memory (subst (λ n. NeedsNothing n (tokens c.args.route)) (sym same) needs)
