use Rattle.jsonptr_grammar.proofs.PointerLemmas.{IsPointer_iff, text_one, tokens_of-text, text-tokens_of, text-append, nil_or_slash}
use Rattle.jsonptr_grammar.proofs.grammar.pointer_law.Goals as goal

pub returns : goal.returns
returns c = record { pointer = IsPointer_iff; one = text_one; tokens = tokens_of-text; texts = λ s p. text-tokens_of p; append = text-append; root = nil_or_slash }
