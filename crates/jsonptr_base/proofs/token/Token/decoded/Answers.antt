use Rattle.std.proofs.Common.{◌≡◌, length, subst, sym, ap, ◌∙◌}
use Rattle.memchr.specs.Find.{Nowhere, Passes, is_byte}
use Rattle.jsonptr_grammar.specs.Text.{Text, esc, unesc}
use Rattle.jsonptr_grammar.specs.Grammar.{IsToken}
use Rattle.jsonptr_grammar.proofs.EscapeLemmas.{IsToken-esc, unesc-esc}
use Rattle.jsonptr_base.proofs.TokenLemmas.{decoded_plain}
use Rattle.jsonptr_base.proofs.token.Token.decoded.Goals as goal

pub unescaped-requires : goal.unescaped-requires
unescaped-requires c = subst IsToken (sym c.encoded-encoded.ensures) (IsToken-esc c.args.self.now)

pub returns-in-None-clause-text : goal.returns-in-None-clause-text
returns-in-None-clause-text c =
    let same : c.as_bytes.result.now ≡ esc c.args.self.now = c.as_bytes.ensures.value ∙ c.encoded-encoded.ensures in
    let none = subst (λ (s : Text). Nowhere (Passes (is_byte 126) s) 0 (length s)) same c.in-None.ensures in
    c.encoded-encoded.ensures ∙ decoded_plain c.args.self.now none

pub returns-in_ok-unescaped-in-Some-clause-text : goal.returns-in_ok-unescaped-in-Some-clause-text
returns-in_ok-unescaped-in-Some-clause-text c =
    c.in_ok-unescaped-in-Some.ensures ∙ ap unesc c.encoded-encoded.ensures ∙ unesc-esc c.args.self.now
