use Rattle.jsonptr.specs.Pointer.{tokens}
use Rattle.jsonptr_session.proofs.UndoLemmas.{through_part}
use Rattle.jsonptr_session.proofs.landing.prefix_through.Goals as goal

pub returns-in-Some : goal.returns-in-Some
returns-in-Some c = through_part (tokens c.args.pointer) (tokens c.in-Some.part) c.args.position _ c.in-Some.ensures.1 c.to_buf.ensures
