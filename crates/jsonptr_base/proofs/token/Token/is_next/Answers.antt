use Rattle.std.proofs.Common.{[], ◌∷◌}
use Rattle.jsonptr_base.proofs.TokenLemmas.{equal_esc}
use Rattle.jsonptr_base.proofs.token.Token.is_next.Goals as goal

pub returns : goal.returns
returns c = equal_esc c.args.self.now (45 ∷ []) c.eq.result (rw (← c.encoded.ensures) c.eq.ensures)
