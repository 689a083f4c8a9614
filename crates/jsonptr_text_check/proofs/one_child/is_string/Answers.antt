use Rattle.std.proofs.Common.{◌≡◌, [], ◌∷◌, Some, sym, ap, ◌∙◌, arith}
use Rattle.json.specs.Token.{Token}
use Rattle.json.specs.Reads.{token_of}
use Rattle.json.specs.declared.token.Token as Read
use Rattle.serde_json.specs.Data.{string}
use Rattle.serde_json.specs.Read.{max_depth}
use Rattle.jsonptr_text_search.proofs.ReadingLemmas.{scalar_reads, whole_read}
use Rattle.jsonptr_text_check.proofs.one_child.is_string.Goals as goal

pub returns : goal.returns
returns c = λ same.
    let found = c.in-Some-String.found in
    let reader = c.in_ok-reader.reader in
    let first : reader ≡ Token.string found.now ∷ c.next.new.self = c.in-Some-String.ensures.value ∙ ap (λ t. token_of t ∷ c.next.new.self) c.in-Some-String.field-0-is in
    let none : c.next.new.self ≡ [] = grind arith in
    whole_read c.args.text.now (string c.args.content.now) reader (sym c.in_ok-reader.ensures.ok)
    (scalar_reads max_depth reader [] (Read.TheVariants.String found) (string c.args.content.now) (first ∙ ap (λ ts. Token.string found.now ∷ ts) none) (λ x. cc) (λ x. cc) (ap (λ s. Some (string s)) (c.is_text.ensures.0 same)))
