use Rattle.jsonptr_grammar.proofs.PointerLemmas.{text-tokens_of}
use Rattle.jsonptr_syntax.proofs.pointer_text_buf.PointerTextBuf.new_unchecked.Goals as goal

pub invariant_of-result : goal.invariant_of-result
invariant_of-result c = text-tokens_of c.requires

pub returns : goal.returns
returns c = text-tokens_of c.requires
