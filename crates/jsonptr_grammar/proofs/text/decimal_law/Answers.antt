use Rattle.jsonptr_grammar.proofs.DecLemmas.{AllDigits-dec, length-dec_pos, dec_first, length-dec_zero, digits_value-dec, dec_one, dec_from_digits, esc-dec, dec-decimal}
use Rattle.jsonptr_grammar.proofs.text.decimal_law.Goals as goal

pub returns : goal.returns
returns c = record { digits = AllDigits-dec; some = length-dec_pos; leading = λ n e. (dec_first n e, length-dec_zero n e); value = digits_value-dec; one = dec_one; each = dec_from_digits; plain = esc-dec; printed = dec-decimal }
