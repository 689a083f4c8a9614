use Rattle.std.proofs.Common.{subst}
use Rattle.std.specs.Prelude.{All, IsUtf8, List}
use Rattle.jsonptr.specs.Text.{Text}
use Rattle.jsonptr_session.proofs.laws.call_law.Goals as goal

pub returns-in-Append : goal.returns-in-Append
returns-in-Append g c = rw c.in-Append.is (subst (λ (ts : List Text). All IsUtf8 ts) c.as_ptr.ensures.tokens c.tokens_law.ensures)

pub returns-in-Write : goal.returns-in-Write
returns-in-Write g c = rw c.in-Write.is (c.requires.1 _)

pub returns-in-Assign : goal.returns-in-Assign
returns-in-Assign g c = rw c.in-Assign.is (c.requires.1 _)
