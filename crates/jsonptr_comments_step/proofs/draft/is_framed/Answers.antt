use Rattle.jsonptr_comments_step.proofs.CheckLemmas.{framed}
use Rattle.jsonptr_comments_step.proofs.draft.is_framed.Goals as goal

pub returns : goal.returns
returns c = λ t.
    framed _ _ _ _ _ _ _ _ _ _ (c.is_comma_or_none.ensures c.if-not-is_comma_or_none.false) (c.is_comma_or_none-2.ensures c.if-not-is_comma_or_none-2.false) (c.is_one_run.ensures c.if-not-is_one_run.false) (c.is_one_run-2.ensures c.if-not-is_one_run-2.false) (c.has_same_tail.ensures t)
