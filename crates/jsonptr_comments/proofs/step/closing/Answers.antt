use Rattle.std.proofs.Common.{List, ℕ, sym, subst, ◌+◌}
use Rattle.jsonptr_comments.specs.PrivateStepping.{Read}
use Rattle.jsonptr_comments.proofs.ReadLemmas.{read_bracket}
use Rattle.jsonptr_comments.proofs.step.closing.Goals as goal

pub returns-clause-goes : goal.returns-clause-goes
returns-clause-goes c = λ all r.
    subst (λ (t : List ℕ). Read all t (c.args.at + 1)) (sym c.blank_comma.ensures)
    (read_bracket all c.args.text.now c.args.at c.trailing_comma-comma.result c.requires.within c.requires.byte c.trailing_comma-comma.ensures r)
