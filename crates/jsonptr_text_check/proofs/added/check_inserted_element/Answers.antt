use Rattle.std.proofs.Common.{◌≡◌, ◌∷◌, List, ℕ, Some, refl, ap, ◌∙◌, subst, arith}
use Rattle.json.specs.Reads.{token_of}
use Rattle.serde_json.specs.Data.{array}
use Rattle.serde_json.specs.Read.{read}
use Rattle.jsonptr_text_search.proofs.ReadingLemmas.{reads_array}
use Rattle.jsonptr_text_check.proofs.added.check_inserted_element.Goals as goal

pub returns-in_ok-add_element-in-BeginArray-clause-passed : goal.returns-in_ok-add_element-in-BeginArray-clause-passed
returns-in_ok-add_element-in-BeginArray-clause-passed c =
    let r = c.in_ok-add_element-in-BeginArray.ensures.passed in (
      array r.0,
      array r.1,
      r.2,
      reads_array c.args.depth c.args.readers.now.one c.same_token.new.one c.add_element.new.readers.one r.0 (omega arith) (c.in_ok-token.ensures.one ∙ ap (λ k. token_of k ∷ c.same_token.new.one) c.in-BeginArray.is) r.3,
      reads_array c.args.depth c.args.readers.now.two c.same_token.new.two c.add_element.new.readers.two r.1 (omega arith) (c.in_ok-token.ensures.two ∙ ap (λ k. token_of k ∷ c.same_token.new.two) c.in-BeginArray.is) r.4,
      subst (λ (s : List ℕ). read s ≡ Some r.2) c.as_str.ensures.value r.5,
      record { ds = r.0; ds2 = r.1; i = c.in_ok-index-in-BeginArray.index; old = refl; new = refl; selects = grind arith; inserts = r.6 },
    )
