use Rattle.std.proofs.lemmas.Result.{IfErr-weaker}
use Rattle.jptr_tasks.proofs.SeveralLemmas.{text_memory}
use Rattle.jptr_tasks.proofs.several.new_text.Goals as goal

pub returns-else-not-rules-clause-refused : goal.returns-else-not-rules-clause-refused
returns-else-not-rules-clause-refused c =
    IfErr-weaker c.with_break.result _ _ (λ e h. text_memory c.args.rules c.args.text.now c.args.edit.now e h) c.with_break.ensures.refused
