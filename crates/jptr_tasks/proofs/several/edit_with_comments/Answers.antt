use Rattle.std.proofs.Common.{inr, refl}
use Rattle.jptr_tasks.proofs.several.edit_with_comments.Goals as goal

pub returns-in-Ok-Reprinted-clause-refused : goal.returns-in-Ok-Reprinted-clause-refused
returns-in-Ok-Reprinted-clause-refused c = (inr (refl, (_, c.in-Ok-Reprinted.ensures.edited)), λ e. absurd cc)
