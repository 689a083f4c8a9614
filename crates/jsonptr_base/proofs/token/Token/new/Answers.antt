use Rattle.std.proofs.Common.{◌∙◌, subst, sym, ap, length}
use Rattle.std.specs.Cow.{cow_str_bytes}
use Rattle.memchr.specs.Find.{Nowhere, Passes, is_byte2}
use Rattle.jsonptr_grammar.specs.Text.{Text, esc, unesc}
use Rattle.jsonptr_grammar.proofs.EscapeLemmas.{unesc-esc}
use Rattle.jsonptr_base.proofs.TokenLemmas.{plain_text}
use Rattle.jsonptr_base.proofs.token.Token.new.Goals as goal

pub invariant_of-result : goal.invariant_of-result
invariant_of-result c =
    let none = subst (λ (s : Text). Nowhere (Passes (is_byte2 126 47) s) 0 (length s)) (c.as_bytes.ensures.value ∙ c.as_str.ensures.value) c.in-None.ensures in
    let plain = plain_text (cow_str_bytes c.args.s) none in
    ap esc plain.1 ∙ plain.0

pub returns-in-None-clause-text : goal.returns-in-None-clause-text
returns-in-None-clause-text c =
    let none = subst (λ (s : Text). Nowhere (Passes (is_byte2 126 47) s) 0 (length s)) (c.as_bytes.ensures.value ∙ c.as_str.ensures.value) c.in-None.ensures in
    (plain_text (cow_str_bytes c.args.s) none).1

pub invariant_of-result-in-Some : goal.invariant_of-result-in-Some
invariant_of-result-in-Some c =
    ap (λ (x : Text). esc (unesc x)) c.in_ok-escaped-in-Some.ensures ∙ ap esc (unesc-esc c.as_str-in-Some.result.now) ∙ sym c.in_ok-escaped-in-Some.ensures

pub returns-clause-text : goal.returns-clause-text
returns-clause-text c =
    ap unesc c.in_ok-escaped-in-Some.ensures ∙ unesc-esc c.as_str-in-Some.result.now ∙ c.as_str-in-Some.ensures.value
