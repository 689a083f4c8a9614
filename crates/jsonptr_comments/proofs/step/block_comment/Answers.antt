use Rattle.std.proofs.Common.{ℕ, List, subst, sym}
use Rattle.jsonptr_comments.specs.PrivateStepping.{Read}
use Rattle.jsonptr_comments.proofs.ReadLemmas.{read_block, open_at}
use Rattle.jsonptr_comments.proofs.step.block_comment.Goals as goal

pub returns-in_default-clause-refused : goal.returns-in_default-clause-refused
returns-in_default-clause-refused c = λ all r.
    open_at all c.args.text.now c.args.at c.requires.within c.requires.byte c.requires.next c.in_default.ensures r

pub returns-clause-goes : goal.returns-clause-goes
returns-clause-goes c = λ all r.
    subst (λ (t : List ℕ). Read all t c.in-Some.end) (sym c.blank_between.ensures)
    (read_block all c.args.text.now c.args.at c.in-Some.end c.requires.within c.requires.byte c.requires.next c.in-Some.ensures.0 c.in-Some.ensures.1 c.in-Some.ensures.2 r)
