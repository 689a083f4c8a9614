use Rattle.jsonptr_uses.proofs.StreamsLemmas.{set_puts}
use Rattle.jsonptr_uses.proofs.streams.set_in_stream.Goals as goal

pub returns-clause-assigned : goal.returns-clause-assigned
returns-clause-assigned g c =
    set_puts c.run_document.result c.args.pointer c.args.raw (g.R.Read.remaining c.args.input.now) (g.W.Write.contents c.args.output.now) (g.W.Write.contents c.run_document.new.output) c.run_document.ensures.written
