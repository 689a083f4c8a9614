use Rattle.jsonptr_io.proofs.StreamLemmas.{on_err_from, prefix_all, prefix_kept}
use Rattle.jsonptr_io.proofs.write.write_and_flush.Goals as goal

pub returns-clause-prefix : goal.returns-clause-prefix
returns-clause-prefix g c =
    let before = g.W.Write.contents c.args.output.now in
    let between = g.W.Write.contents c.write_bytes.new.output in
    on_err_from c.map_err.result (prefix_kept before between (g.W.Write.contents c.flush.new.self) c.args.bytes.now
    (prefix_all before between c.args.bytes.now c.in_ok-write_bytes.ensures.written) c.flush.ensures.bytes)
