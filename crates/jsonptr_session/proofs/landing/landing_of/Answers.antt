use Rattle.std.proofs.Common.{rules}
use Rattle.jsonptr.specs.Pointer.{tokens}
use Rattle.jsonptr.specs.Resolve.{Refuses}
use Rattle.jsonptr_session.proofs.UndoLemmas.{landing_found, landing_refused}
use Rattle.jsonptr_session.proofs.landing.landing_of.Goals as goal

pub returns-in-Ok : goal.returns-in-Ok
returns-in-Ok g c = landing_found _ _ _ c.in-Ok.ensures.found c.to_buf.ensures

pub returns-in_ok-refused-in-Err : goal.returns-in_ok-refused-in-Err
returns-in_ok-refused-in-Err g c =
    let refused : Refuses (g.D.SessionDocument.nodes c.args.document.now) (tokens c.args.pointer) c.in_ok-refused-in-Err.field-0 = search rules in
    landing_refused _ _ _ _ refused c.landing_before.ensures
