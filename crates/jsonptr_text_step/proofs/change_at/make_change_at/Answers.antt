use Rattle.std.proofs.Common.{string_bytes, subst, List}
use Rattle.jsonptr.specs.Pointer.{tokens}
use Rattle.jsonptr_text_search.specs.Search.{choices}
use Rattle.jsonptr_text_search.specs.declared.selector.Selector.{Selector}
use Rattle.jsonptr_text_check.specs.Editing.{IsEdited, Makes}
use Rattle.jsonptr_text_step.specs.PrivateReaching.{ReachedInText}
use Rattle.jsonptr_text_step.proofs.EditLemmas.{if_new}
use Rattle.jsonptr_text_step.proofs.ReachingLemmas.{reached_in_text}
use Rattle.jsonptr_text_step.proofs.change_at.make_change_at.Goals as goal

pub returns-clause-reached : goal.returns-clause-reached
returns-clause-reached c =
    if_new c.make_change.result
    (λ s. IsEdited c.args.cut.now.text.now (string_bytes s) (choices c.deref.result.now) c.args.at.now.change.now)
    (λ s. ReachedInText c.args.cut.now.text.now (string_bytes s) (tokens c.args.at.now.pointer) (Makes c.args.at.now.change.now))
    (λ s h. reached_in_text c.args.cut.now.text.now (string_bytes s) (tokens c.args.at.now.pointer) (choices c.in_ok-selectors.selectors.items) (Makes c.args.at.now.change.now) c.in_ok-selectors.ensures
    (subst (λ (ss : List Selector). IsEdited c.args.cut.now.text.now (string_bytes s) (choices ss) c.args.at.now.change.now) c.deref.ensures.value h))
    c.make_change.ensures.edited
