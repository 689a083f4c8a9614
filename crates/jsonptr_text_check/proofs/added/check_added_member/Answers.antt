use Rattle.std.proofs.Common.{◌≡◌, ◌∷◌, List, ℕ, Some, refl, ap, ◌∙◌, subst, arith}
use Rattle.json.specs.Reads.{token_of}
use Rattle.serde_json.specs.Data.{object}
use Rattle.serde_json.specs.Read.{read}
use Rattle.jsonptr_text_search.proofs.ReadingLemmas.{reads_object}
use Rattle.jsonptr_text_check.specs.Editing.{InsertsMember}
use Rattle.jsonptr_text_check.proofs.added.check_added_member.Goals as goal

pub returns-in_ok-add_member-in-BeginObject-clause-passed : goal.returns-in_ok-add_member-in-BeginObject-clause-passed
returns-in_ok-add_member-in-BeginObject-clause-passed c =
    let r = c.in_ok-add_member-in-BeginObject.ensures.passed in (
      object r.0,
      object r.1,
      r.2,
      reads_object c.args.depth c.args.readers.now.one c.same_token.new.one c.add_member.new.readers.one r.0 (omega arith) (c.in_ok-token.ensures.one ∙ ap (λ k. token_of k ∷ c.same_token.new.one) c.in-BeginObject.is) r.3,
      reads_object c.args.depth c.args.readers.now.two c.same_token.new.two c.add_member.new.readers.two r.1 (omega arith) (c.in_ok-token.ensures.two ∙ ap (λ k. token_of k ∷ c.same_token.new.two) c.in-BeginObject.is) r.4,
      subst (λ (s : List ℕ). read s ≡ Some r.2) c.as_str-in-BeginObject.ensures.value r.5,
      record { ms = r.0; ms2 = r.1; old = refl; new = refl; inserts = subst (λ (k : List ℕ). InsertsMember k r.2 r.0 r.1) c.as_str.ensures.value r.6 },
    )
