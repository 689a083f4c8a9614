use Rattle.jsonptr_comments_step.proofs.CheckLemmas.{if_so, removal_changed}
use Rattle.jsonptr_comments_step.proofs.child.is_removal.Goals as goal

pub returns : goal.returns
returns c =
    if_so _ _ c.is_child_at.result (λ x. removal_changed _ _ _ _ _ _ _ _ _ _ _ _ (c.are_runs.ensures c.if-not-are_runs.false) x) c.is_child_at.ensures
