use Rattle.std.proofs.Common.{◌≡◌, ◌++◌, List, ℕ, string_bytes, ◌∙◌, subst}
use Rattle.jsonptr_text_search.specs.Search.{choices}
use Rattle.jsonptr_text_check.specs.Leading.{BeginsAt}
use Rattle.jsonptr_text_step.proofs.change_at.change_value_at.Goals as goal

pub returns-then-branch-clause-placed : goal.returns-then-branch-clause-placed
returns-then-branch-clause-placed c =
    let cut = c.args.cut.now in
    let piece = c.args.at.piece.now in
    let made : string_bytes c.in_ok-new.new ≡ cut.before.now ++ (piece ++ cut.after.now) = c.in_ok-new.ensures in
    record {
      splices = record { before = cut.before.now; after = cut.after.now; old_is = cut.whole; new_is = made };
      was_at = c.in_ok-leads_after.ensures.begins cut.after.now cut.whole c.if-not-branch.false;
      is_at = subst (λ (t : List ℕ). BeginsAt (choices c.args.at.path.now) t piece (piece ++ cut.after.now)) c.as_str-2.ensures.value (c.in_ok-leads_after-2.ensures.begins cut.after.now (c.as_str-2.ensures.value ∙ made) c.if-branch.true);
    }
