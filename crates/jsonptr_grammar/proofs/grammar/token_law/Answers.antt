use Rattle.jsonptr_grammar.proofs.EscapeLemmas.{IsToken_iff, unesc-esc, esc_one, esc-unesc, no_slash-IsToken}
use Rattle.jsonptr_grammar.proofs.grammar.token_law.Goals as goal

pub returns : goal.returns
returns c = record { token = IsToken_iff; one = esc_one; decoded = unesc-esc; encoded = λ t r. esc-unesc r; no_slash = λ t r. no_slash-IsToken r }
