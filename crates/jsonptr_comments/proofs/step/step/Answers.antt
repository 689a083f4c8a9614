use Rattle.std.proofs.Common.{sym, ◌∙◌, arith}
use Rattle.jsonptr_comments.proofs.ReadLemmas.{read_string, read_other}
use Rattle.jsonptr_comments.proofs.step.step.Goals as goal

pub returns-then-byte-eq34-clause-goes : goal.returns-then-byte-eq34-clause-goes
returns-then-byte-eq34-clause-goes c = λ all r.
    read_string all c.args.text.now c.args.at c.string_end.result c.requires c.if-byte-eq34.true c.string_end.ensures.after (omega (arith, c.string_end.ensures.forward)) c.string_end.ensures.within r

pub returns-else-is_closing-clause-goes : goal.returns-else-is_closing-clause-goes
returns-else-is_closing-clause-goes c = λ all r.
    read_other all c.args.text.now c.args.at c.requires c.if-byte-eq34.false c.if-byte-eq47.false (sym c.is_closing.ensures ∙ c.if-is_closing.false) r
