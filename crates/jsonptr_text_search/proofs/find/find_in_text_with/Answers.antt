use Rattle.std.proofs.Common.{◌≡◌, length, ap, arith}
use Rattle.json.specs.Lex.{tokens}
use Rattle.jsonptr_text_search.proofs.TokenCount.{tokens_few}
use Rattle.jsonptr_text_search.proofs.find.find_in_text_with.Goals as goal

pub find-requires-clause-few : goal.find-requires-clause-few
find-requires-clause-few c =
    let same : length c.in_ok-reader.reader ≡ length (tokens c.args.text.now) = ap (λ ts. length ts) c.in_ok-reader.ensures.ok in
    omega (arith, tokens_few c.args.text.now)
