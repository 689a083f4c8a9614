use Rattle.std.proofs.Common.{ap, ◌∙◌, ◌∷◌, rules}
use Rattle.json.specs.Token.{number}
use Rattle.json.specs.Reads.{token_of}
use Rattle.jsonptr_text_digits.proofs.FindLemmas.{one_kept, other_token}
use Rattle.jsonptr_text_digits.proofs.search.first_lost.Goals as goal

pub loop-token-preserved-else-not-is_kept : goal.loop-token-preserved-else-not-is_kept
loop-token-preserved-else-not-is_kept c =
    one_kept _ c.loop-token.reader c.next.new.self (number c.in-Number.number.now) (c.in-Some.ensures.value ∙ ap (λ t. token_of t ∷ c.next.new.self) c.in-Number.is) (c.is_kept.ensures.kept (search rules)) c.loop-token.invariant

pub loop-token-preserved : goal.loop-token-preserved
loop-token-preserved c = one_kept _ c.loop-token.reader c.next.new.self (token_of c.in-Some.token) (c.in-Some.ensures.value) (other_token c.in-Some.token c.in_default-token.not-Number) c.loop-token.invariant
