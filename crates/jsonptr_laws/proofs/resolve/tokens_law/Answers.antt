use Rattle.std.proofs.Common.{subst}
use Rattle.std.specs.Prelude.{IsUtf8}
use Rattle.jsonptr_grammar.proofs.PointerLemmas.{IsPointer-from_tokens}
use Rattle.jsonptr_grammar.proofs.Utf8Lemmas.{IsUtf8-tokens_of}
use Rattle.jsonptr.specs.Pointer.{text_of}
use Rattle.jsonptr_laws.proofs.resolve.tokens_law.Goals as goal

pub returns : goal.returns
returns c = IsUtf8-tokens_of (text_of c.args.ptr) (IsPointer-from_tokens _ c.args.ptr.inner.valid) (subst IsUtf8 c.as_str.ensures.text c.as_str.utf8)
