use Rattle.std.proofs.Common.{subst, ◌∙◌, sym}
use Rattle.std.proofs.lemmas.Bool.{false≢true}
use Rattle.jsonptr_grammar.specs.Grammar.{IsToken}
use Rattle.jsonptr_grammar.proofs.EscapeLemmas.{esc-unesc}
use Rattle.jsonptr_grammar.proofs.FaultLemmas.{no_token_fault}
use Rattle.jsonptr_base.proofs.token.Token.from_encoded.Goals as goal

pub invariant_of-result : goal.invariant_of-result
invariant_of-result c =
    esc-unesc (subst IsToken (c.as_bytes.ensures.value ∙ c.as_str.ensures.value) c.in-None.ensures)

pub returns-in-None-clause-text : goal.returns-in-None-clause-text
returns-in-None-clause-text c =
    esc-unesc (subst IsToken (c.as_bytes.ensures.value ∙ c.as_str.ensures.value) c.in-None.ensures)

pub returns-clause-token : goal.returns-clause-token
returns-clause-token c = (
  λ ok. absurd (false≢true ok),
  λ token.
      absurd (no_token_fault (subst IsToken (sym (c.as_bytes.ensures.value ∙ c.as_str.ensures.value)) token) _ c.in-Some.ensures.place),
)
