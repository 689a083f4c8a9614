use Rattle.jsonptr_grammar.proofs.EscapeLemmas.{esc-encodes, IsUtf8-esc_iff, IsUtf8-unesc, chars-esc, chars-unesc, IsToken-encodes_iff}
use Rattle.jsonptr_grammar.proofs.PointerLemmas.{text-encodes}
use Rattle.jsonptr_grammar.proofs.FaultLemmas.{IsPointer-encodes_iff}
use Rattle.jsonptr_grammar.proofs.Utf8Lemmas.{IsUtf8-tokens_of}
use Rattle.jsonptr_grammar.proofs.text.characters_law.Goals as goal

pub returns : goal.returns
returns c = record { bytes = esc-encodes; text_bytes = text-encodes; token = IsToken-encodes_iff; pointer = IsPointer-encodes_iff; encoded = IsUtf8-esc_iff; decoded = IsUtf8-unesc; characters = chars-esc; decoded_characters = chars-unesc; tokens = IsUtf8-tokens_of }
