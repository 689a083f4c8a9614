use Rattle.jsonptr_base.proofs.TokenLemmas.{equal_esc}
use Rattle.jsonptr_base.proofs.token.TokenPartialEq.eq.Goals as goal

pub returns-clause-decoded : goal.returns-clause-decoded
returns-clause-decoded c =
    equal_esc c.args.self.now c.args.other.now c.eq.result (rw (← c.encoded.ensures, ← c.encoded-2.ensures) c.eq.ensures)
