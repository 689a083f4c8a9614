use Rattle.std.proofs.Common.{[], ◌∷◌, ◌++◌, List, subst}
use Rattle.jsonptr.specs.Pointer.{tokens}
use Rattle.jsonptr_text_search.specs.Search.{choices}
use Rattle.jsonptr_text_search.specs.declared.selector.Selector.{Selector}
use Rattle.jsonptr_text_check.specs.Leading.{LeadsInText}
use Rattle.jsonptr_text_step.specs.PrivateOperating.{FindsText}
use Rattle.jsonptr_text_step.proofs.EditLemmas.{if_true}
use Rattle.jsonptr_text_step.proofs.OperatingLemmas.{finds_text}
use Rattle.jsonptr_text_step.proofs.rename.leads_to_member.Goals as goal

pub returns-clause-found : goal.returns-clause-found
returns-clause-found c =
    let text = c.args.text.now in
    let path = tokens c.args.renamed.site.now.pointer ++ c.args.renamed.token.now ∷ [] in
    let value = c.args.renamed.member.now.value.now in
    let items = c.in_ok-selectors.selectors.items in
    if_true c.leads_to.result
    (LeadsInText text (choices c.deref.result.now) value)
    (FindsText text path value)
    (λ h. finds_text text path (choices items) value c.in_ok-selectors.ensures (subst (λ (ss : List Selector). LeadsInText text (choices ss) value) c.deref.ensures.value h))
    c.leads_to.ensures.leads
