use Rattle.std.proofs.Common.{◌∷◌, List, ℕ, string_bytes, refl, ap, ◌∙◌, subst, arith}
use Rattle.json.specs.Reads.{token_of}
use Rattle.serde_json.specs.Data.{object}
use Rattle.jsonptr_text_search.proofs.ReadingLemmas.{reads_object}
use Rattle.jsonptr_text_check.specs.Editing.{RenamesKey}
use Rattle.jsonptr_text_check.proofs.renamed.check_renamed_member.Goals as goal

pub returns-in_ok-rename_member-in-BeginObject-clause-passed : goal.returns-in_ok-rename_member-in-BeginObject-clause-passed
returns-in_ok-rename_member-in-BeginObject-clause-passed c =
    let r = c.in_ok-rename_member-in-BeginObject.ensures.passed in (
      object r.0,
      object r.1,
      reads_object c.args.depth c.args.readers.now.one c.same_token.new.one c.rename_member.new.readers.one r.0 (omega arith) (c.in_ok-token.ensures.one ∙ ap (λ k. token_of k ∷ c.same_token.new.one) c.in-BeginObject.is) r.3,
      reads_object c.args.depth c.args.readers.now.two c.same_token.new.two c.rename_member.new.readers.two r.1 (omega arith) (c.in_ok-token.ensures.two ∙ ap (λ k. token_of k ∷ c.same_token.new.two) c.in-BeginObject.is) r.4,
      record {
        ms = r.0;
        ms2 = r.1;
        e = r.2;
        old = refl;
        new = refl;
        renames = subst (λ (k : List ℕ). RenamesKey k (string_bytes c.args.renaming.now.to) r.2 r.0 r.1) c.as_str-from.ensures.value (subst (λ (k : List ℕ). RenamesKey c.as_str-from.result.now k r.2 r.0 r.1) c.as_str-to.ensures.value r.5);
      },
    )
