use Rattle.jsonptr_grammar.proofs.EscapeLemmas.{unesc-esc, esc_one, esc-append, length-le-esc, length-esc-le}
use Rattle.jsonptr_grammar.proofs.text.escape_law.Goals as goal

pub returns : goal.returns
returns c = record { decoded = unesc-esc; one = esc_one; append = esc-append; longer = length-le-esc; twice = length-esc-le }
