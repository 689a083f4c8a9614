use Rattle.std.proofs.Common.{subst}
use Rattle.std.specs.Prelude.{All, IsUtf8, List}
use Rattle.jsonptr.specs.Text.{Text}
use Rattle.jsonptr_session.proofs.laws.state_law.Goals as goal

pub returns : goal.returns
returns g c = λ n document. record {
  tokens = subst (λ (ts : List Text). All IsUtf8 ts) c.as_ptr.ensures c.tokens_law.ensures;
  nodes = document;
}
