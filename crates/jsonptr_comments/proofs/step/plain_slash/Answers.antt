use Rattle.std.proofs.Common.{◌∙◌, sym, inl, inr}
use Rattle.jsonptr_comments.proofs.ReadLemmas.{read_slash, comment_stops}
use Rattle.jsonptr_comments.proofs.step.plain_slash.Goals as goal

pub returns-clause-goes : goal.returns-clause-goes
returns-clause-goes c = λ all r.
    read_slash all c.args.text.now c.args.at c.requires.within c.requires.byte
    (λ e. c.if-next-eq47.false (c.byte_at-next.ensures.byte ∙ e)) (λ e. c.if-next-eq42.false (c.byte_at-next.ensures.byte ∙ e)) r

pub returns-then-next-eq47-clause-stops : goal.returns-then-next-eq47-clause-stops
returns-then-next-eq47-clause-stops c = λ r p.
    comment_stops c.args.text.now c.args.at c.requires.within c.requires.byte (inl (sym c.byte_at-next.ensures.byte ∙ c.if-next-eq47.true)) r p

pub returns-then-next-eq42-clause-stops : goal.returns-then-next-eq42-clause-stops
returns-then-next-eq42-clause-stops c = λ r p.
    comment_stops c.args.text.now c.args.at c.requires.within c.requires.byte (inr (sym c.byte_at-next.ensures.byte ∙ c.if-next-eq42.true)) r p
