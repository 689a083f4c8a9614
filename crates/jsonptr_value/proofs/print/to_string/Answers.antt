use Rattle.std.proofs.Common.{◌≡◌, ◌++◌, sym, ap, ◌∙◌, subst, string_bytes}
use Rattle.json.specs.Lex.{tokens}
use Rattle.json.specs.Print.{print}
use Rattle.serde_json.specs.View.{view}
use Rattle.serde_json.specs.Written.{WritesValue}
use Rattle.serde_json.proofs.Texts.{tokens_from_order, print-outline}
use Rattle.jsonptr_value.proofs.WritingLemmas.{read_back}
use Rattle.jsonptr_value.proofs.print.to_string.Goals as goal

pub returns-clause-reads_back : goal.returns-clause-reads_back
returns-clause-reads_back c =
    let ts = c.write.new.out.tokens in
    let text : string_bytes c.from_utf8_unchecked.result ≡ print ts =
    ap (λ v. v.items) c.from_utf8_unchecked.ensures.value ∙ c.into_inner.ensures.items ∙ ap (λ b. b ++ print ts) (c.write.ensures.before ∙ c.new-out.ensures.before ∙ c.in_ok-with_capacity.ensures.items) in
    read_back _ ts _ (subst (λ old. WritesValue (view c.args.value.now) old ts) c.new-out.ensures.tokens c.in_ok-write.ensures.written) (ap tokens text ∙ c.into_inner.ensures.reads_back)

pub returns-clause-compact : goal.returns-clause-compact
returns-clause-compact c =
    let ts = c.write.new.out.tokens in
    let text : string_bytes c.from_utf8_unchecked.result ≡ print ts =
    ap (λ v. v.items) c.from_utf8_unchecked.ensures.value ∙ c.into_inner.ensures.items ∙ ap (λ b. b ++ print ts) (c.write.ensures.before ∙ c.new-out.ensures.before ∙ c.in_ok-with_capacity.ensures.items) in
    text ∙ ap print (sym (ap tokens text ∙ c.into_inner.ensures.reads_back))

pub returns-clause-order : goal.returns-clause-order
returns-clause-order c =
    let ts = c.write.new.out.tokens in
    let text : string_bytes c.from_utf8_unchecked.result ≡ print ts =
    ap (λ v. v.items) c.from_utf8_unchecked.ensures.value ∙ c.into_inner.ensures.items ∙ ap (λ b. b ++ print ts) (c.write.ensures.before ∙ c.new-out.ensures.before ∙ c.in_ok-with_capacity.ensures.items) in
    let w = subst (λ old. WritesValue (view c.args.value.now) old ts) c.new-out.ensures.tokens c.in_ok-write.ensures.written in
    (w.0, ap tokens text ∙ c.into_inner.ensures.reads_back ∙ w.1, w.4)

pub returns-clause-text : goal.returns-clause-text
returns-clause-text c whole = returns-clause-compact c ∙ ap print (tokens_from_order _ _ (returns-clause-order c) whole) ∙ print-outline _
