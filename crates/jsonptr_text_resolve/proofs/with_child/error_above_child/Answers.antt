use Rattle.jsonptr.specs.Pointer.{tokens}
use Rattle.jsonptr_text_resolve.proofs.ChildLemmas.{found_at_stop, stops_above}
use Rattle.jsonptr_text_resolve.proofs.with_child.error_above_child.Goals as goal

pub returns-then-left-eq1 : goal.returns-then-left-eq1
returns-then-left-eq1 c = λ d cs h small s. found_at_stop d (tokens c.args.pointer) cs c.args.left c.args.kind h s c.if-left-eq1.true

pub returns-else-left-eq1 : goal.returns-else-left-eq1
returns-else-left-eq1 c = λ d cs h small s.
    c.error_at.ensures d (stops_above d (tokens c.args.pointer) cs c.args.left c.saturating_sub.result c.args.kind h small s c.if-left-eq1.false c.saturating_sub.ensures)
