use Rattle.jsonptr_session.proofs.MachineLemmas.{node_named}
use Rattle.jsonptr_session.proofs.laws.node_law.Goals as goal

pub returns : goal.returns
returns c = node_named
