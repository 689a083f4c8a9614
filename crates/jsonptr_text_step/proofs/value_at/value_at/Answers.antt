use Rattle.std.proofs.Common.{List, string_bytes, subst}
use Rattle.jsonptr.specs.Text.{Text}
use Rattle.jsonptr.specs.Pointer.{tokens}
use Rattle.jsonptr_text_search.specs.Search.{choices}
use Rattle.jsonptr_text_search.specs.declared.selector.Selector.{Selector}
use Rattle.jsonptr_text_check.specs.Leading.{LeadsInText}
use Rattle.jsonptr_text_step.proofs.OperatingLemmas.{finds_text}
use Rattle.jsonptr_text_step.proofs.value_at.value_at.Goals as goal

pub returns-then-branch : goal.returns-then-branch
returns-then-branch c =
    let text = c.args.text.now in
    let flat = string_bytes c.in_ok-printed.printed.flat in
    let items = c.in_ok-selectors.selectors.items in
    finds_text text (tokens c.args.pointer) (choices items) flat c.in_ok-selectors.ensures
    (subst (λ (ss : List Selector). LeadsInText text (choices ss) flat) c.deref-2.ensures.value
    (subst (λ (t : Text). LeadsInText text (choices c.deref-2.result.now) t) c.as_str.ensures.value (c.in_ok-leads_to.ensures.leads c.if-branch.true)))
