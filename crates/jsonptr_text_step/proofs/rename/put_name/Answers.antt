use Rattle.std.proofs.Common.{◌≡◌, [], ◌∷◌, ◌++◌, Option, IfSome, string_bytes, sym, ap, ◌∙◌, subst}
use Rattle.serde_json.specs.Data.{string}
use Rattle.jsonptr.specs.Text.{Text}
use Rattle.jsonptr.specs.Pointer.{tokens}
use Rattle.jsonptr_text_check.specs.Child.{IsValueText}
use Rattle.jsonptr_text_piece.specs.Spacing.{IsSpaced, IsTrimmed}
use Rattle.jsonptr_text_check.specs.declared.member.MemberText.{MemberText}
use Rattle.jsonptr_text_step.specs.declared.plan.Made.{Made}
use Rattle.jsonptr_text_step.specs.Placing.{IsAt}
use Rattle.jsonptr_text_step.specs.PrivateRenaming.{IsNamedAnew}
use Rattle.jsonptr_text_step.proofs.rename.put_name.Goals as goal

pub returns-then-branch-clause-bytes : goal.returns-then-branch-clause-bytes
returns-then-branch-clause-bytes c =
    let old = c.args.site.now.text.now in
    let member = c.in-Some.member in
    let cut = member.cut in
    let new = string_bytes c.in-Some-2.new.text in
    let path = tokens c.args.site.now.pointer ++ c.args.to.now ∷ [] in
    let text_is = subst (λ (o : Option MemberText). IfSome o (λ m. m.cut.text.now ≡ old)) c.in-Some.is c.in_ok-member.ensures.text in
    let named = subst (λ (o : Option MemberText). IfSome o (λ m. IsValueText (string c.as_str.result.now) m.cut.middle.now)) c.in-Some.is c.in_ok-member.ensures.named in
    let spaced = subst (λ (o : Option MemberText). IfSome o (λ m. IsSpaced 58 m.colon.now)) c.in-Some.is c.in_ok-member.ensures.spaced in
    let trimmed = subst (λ (o : Option MemberText). IfSome o (λ m. IsTrimmed m.value.now)) c.in-Some.is c.in_ok-member.ensures.trimmed in
    let anew = subst (λ (o : Option Made). IfSome o (λ s. IsNamedAnew (string_bytes c.in_ok-key.key) cut.before.now cut.after.now (string_bytes s.text))) c.in-Some-2.is c.in_ok-new.ensures.named in
    let found = c.in_ok-leads_to_member.ensures.found c.if-not-branch.false in
    record {
      name = cut.middle.now;
      name2 = anew.0;
      colon = member.colon.now;
      value = member.value.now;
      rest = member.after.now;
      e = found.0;
      splices = record { before = cut.before.now; after = cut.after.now; old_is = sym text_is ∙ cut.whole; new_is = anew.2 };
      named = subst (λ (y : Text). IsValueText (string y) cut.middle.now) (c.as_str.ensures.value ∙ c.in_ok-old_key.ensures) named;
      named2 = subst (λ (y : Text). IsValueText (string y) anew.0) c.in_ok-key.ensures anew.1;
      after_is = member.named ∙ ap (λ (t : Text). member.colon.now ++ t) member.valued;
      spaced = spaced;
      found = found.2;
      whole = record { reads = found.1; trimmed = trimmed };
      was_at = c.in_ok-leads_to_member.ensures.at c.if-not-branch.false;
      is_at = subst (λ (t : Text). IsAt t path member.value.now member.after.now) c.as_str-2.ensures.value (c.in_ok-leads_to_member-2.ensures.at c.if-branch.true);
    }
