use Rattle.jsonptr_io.specs.Streams.{ReadsSome}
use Rattle.std.proofs.KnownBytes.{Consumes-trans}
use Rattle.jsonptr_io.proofs.StreamLemmas.{on_err_from}
use Rattle.jsonptr_io.proofs.input.read_all.Goals as goal

pub returns-in_err-map_err-in-Ok-clause-consumed : goal.returns-in_err-map_err-in-Ok-clause-consumed
returns-in_err-map_err-in-Ok-clause-consumed g c =
    let consumed : ReadsSome (g.R.Read.remaining c.args.input.now) (g.R.Read.remaining c.read.new.self) = (_, Consumes-trans _ _ _ _ _ c.loop-turn.invariant c.in-Ok.ensures.bytes.0) in
    on_err_from _ consumed
