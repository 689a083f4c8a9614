use Rattle.std.proofs.Common.{List, subst}
use Rattle.jsonptr.specs.Pointer.{tokens}
use Rattle.jsonptr_text_search.specs.Search.{choices}
use Rattle.jsonptr_text_search.specs.declared.selector.Selector.{Selector}
use Rattle.jsonptr_text_check.specs.Editing.{IsEdited, Makes}
use Rattle.jsonptr_text_step.specs.PrivateReaching.{ReachedInText}
use Rattle.jsonptr_text_step.proofs.EditLemmas.{if_true}
use Rattle.jsonptr_text_step.proofs.ReachingLemmas.{reached_in_text}
use Rattle.jsonptr_text_step.proofs.change_at.is_changed_at.Goals as goal

pub returns : goal.returns
returns c =
    let old = c.args.old.now in
    let new = c.args.new.now in
    if_true c.is_edited.result (IsEdited old new (choices c.deref.result.now) c.args.at.now.change.now) (ReachedInText old new (tokens c.args.at.now.pointer) (Makes c.args.at.now.change.now))
    (λ h. reached_in_text old new (tokens c.args.at.now.pointer) (choices c.in_ok-selectors.selectors.items) (Makes c.args.at.now.change.now) c.in_ok-selectors.ensures
    (subst (λ (ss : List Selector). IsEdited old new (choices ss) c.args.at.now.change.now) c.deref.ensures.value h))
    c.is_edited.ensures
