use Rattle.std.proofs.Common.{List, ap, sym, subst}
use Rattle.jsonptr.specs.Text.{Text}
use Rattle.jsonptr_session.specs.Machine.{State, Runs}
use Rattle.jsonptr_session.proofs.RunLawLemmas.{runs_same}
use Rattle.jsonptr_session.proofs.laws.kinds_law.Goals as goal

pub returns : goal.returns
returns g c = λ blank n m k p end q last cs answers others from all each h i.
    let second = subst (λ (ts : List Text). Runs blank (record { tokens = ts; nodes = n }) cs others (record { tokens = g.Q.EditPointer.list last; nodes = k })) (sym from) i in
    let same = runs_same c.machine_law.ensures.one blank _ _ _ cs answers others all each h second in
    (same.0, ap (λ (s : State). s.tokens) same.1, ap (λ (s : State). s.nodes) same.1)
