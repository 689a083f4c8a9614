use Rattle.std.proofs.Common.{◌∙◌, sym}
use Rattle.jsonptr_grammar.proofs.PointerLemmas.{IsPointer-from_tokens, length-tokens_of}
use Rattle.jsonptr_syntax.proofs.pointer_text.PointerText.count.Goals as goal

pub returns : goal.returns
returns c = c.slashes.ensures ∙ sym (length-tokens_of _ (IsPointer-from_tokens _ c.args.self.now.valid))
