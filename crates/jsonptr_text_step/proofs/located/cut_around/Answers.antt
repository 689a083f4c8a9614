use Rattle.std.proofs.Common.{◌≡◌, ◌++◌, List, sym, ◌∙◌, subst}
use Rattle.jsonptr.specs.Pointer.{tokens}
use Rattle.jsonptr_text_search.specs.Search.{choices}
use Rattle.jsonptr_text_search.specs.declared.selector.Selector.{Selector}
use Rattle.jsonptr_text_check.specs.Leading.{LeadsInText, BeginsAt}
use Rattle.jsonptr_text_step.proofs.OperatingLemmas.{finds_text}
use Rattle.jsonptr_text_step.proofs.located.cut_around.Goals as goal

pub returns-then-branch : goal.returns-then-branch
returns-then-branch c =
    let cut = c.in-Some-cut_at.cut in
    let text = c.args.text.now in
    let items = c.in_ok-selectors.selectors.items in
    let parts : text ≡ cut.before.now ++ (cut.middle.now ++ cut.after.now) = sym c.in-Some-cut_at.ensures ∙ cut.whole in
    let leads = subst (λ (ss : List Selector). LeadsInText text (choices ss) cut.middle.now) c.deref-2.ensures.value (c.in_ok-leads_after.ensures.leads c.if-branch.true) in
    let begins = subst (λ (ss : List Selector). BeginsAt (choices ss) text cut.middle.now (cut.middle.now ++ cut.after.now)) c.deref-2.ensures.value (c.in_ok-leads_after.ensures.begins cut.after.now parts c.if-branch.true) in
    let f = finds_text text (tokens c.args.pointer) (choices items) cut.middle.now c.in_ok-selectors.ensures leads in
    record {
      value = f.0;
      parts = parts;
      found = f.2;
      whole = record { reads = f.1; trimmed = c.is_trimmed.ensures c.if-is_trimmed.true };
      is_at = (choices items, c.in_ok-selectors.ensures, begins);
    }
