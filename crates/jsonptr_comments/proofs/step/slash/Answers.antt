use Rattle.std.proofs.Common.{◌∙◌}
use Rattle.jsonptr_comments.proofs.ReadLemmas.{read_slash}
use Rattle.jsonptr_comments.proofs.step.slash.Goals as goal

pub returns-else-next-eq42-clause-goes : goal.returns-else-next-eq42-clause-goes
returns-else-next-eq42-clause-goes c = λ all r.
    read_slash all c.args.text.now c.args.at c.requires.within c.requires.byte
    (λ e. c.if-next-eq47.false (c.byte_at-next.ensures.byte ∙ e)) (λ e. c.if-next-eq42.false (c.byte_at-next.ensures.byte ∙ e)) r
