use Rattle.jsonptr_grammar.proofs.EscapeLemmas.{esc-unesc}
use Rattle.jsonptr_base.proofs.token.Token.from_encoded_unchecked.Goals as goal

pub invariant_of-result : goal.invariant_of-result
invariant_of-result c = esc-unesc c.requires

pub returns : goal.returns
returns c = esc-unesc c.requires
