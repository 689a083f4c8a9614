use Rattle.jsonptr.specs.Pointer.{tokens}
use Rattle.jsonptr_comments_step.proofs.CheckLemmas.{if_so, replacement_changed}
use Rattle.jsonptr_comments_step.proofs.value.is_replacement.Goals as goal

pub returns : goal.returns
returns c =
    if_so _ _ c.is_value_at.result
    (λ v. replacement_changed _ _ (tokens c.in-Some.way) (tokens c.in-Some.more) c.is_empty.result _ _ _ _ _ _ c.in-Some.ensures.0 c.is_empty.ensures.0 (c.is_run.ensures c.if-not-is_run.false) (c.has_new_run.ensures c.if-not-has_new_run.false) v)
    c.is_value_at.ensures
