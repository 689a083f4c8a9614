use Rattle.jsonptr_comments_step.proofs.CheckLemmas.{if_so, renaming}
use Rattle.jsonptr_comments_step.proofs.name.is_renaming.Goals as goal

pub returns : goal.returns
returns c = if_so _ _ c.is_name_at.result (λ n. renaming _ _ _ _ _ _ _ _ c.requires (c.are_runs.ensures c.if-not-are_runs.false) n) c.is_name_at.ensures
