use Rattle.std.proofs.Common.{ℕ, List, subst, sym, arith}
use Rattle.jsonptr_comments.specs.PrivateStepping.{Read}
use Rattle.jsonptr_comments.proofs.ReadLemmas.{read_line}
use Rattle.jsonptr_comments.proofs.step.line_comment.Goals as goal

pub returns-clause-goes : goal.returns-clause-goes
returns-clause-goes c = λ all r.
    subst (λ (t : List ℕ). Read all t c.line_end-end.result) (sym c.blank_between.ensures)
    (read_line all c.args.text.now c.args.at c.line_end-end.result c.requires.within c.requires.byte c.requires.next c.line_end-end.ensures.after (omega (arith, c.line_end-end.ensures.forward)) c.line_end-end.ensures.within r)
