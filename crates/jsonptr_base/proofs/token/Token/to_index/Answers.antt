use Rattle.std.proofs.Common.{subst}
use Rattle.std.specs.Prelude.{IsUtf8}
use Rattle.jsonptr_grammar.specs.Text.{Text}
use Rattle.jsonptr_base.specs.Index.{Reads}
use Rattle.jsonptr_base.proofs.IndexLemmas.{Reads-unesc, IsUtf8-from_esc}
use Rattle.jsonptr_base.proofs.token.Token.to_index.Goals as goal

pub returns-clause-decoded : goal.returns-clause-decoded
returns-clause-decoded c =
    let utf8 = IsUtf8-from_esc c.args.self.now (subst IsUtf8 c.encoded.ensures c.encoded.utf8) in
    Reads-unesc c.args.self.now utf8 c.parse.result
    (subst (λ (t : Text). Reads t c.parse.result) c.encoded.ensures c.parse.ensures.value)
