use Rattle.std.proofs.lemmas.Result.{IfErr-weaker}
use Rattle.jsonptr.specs.Pointer.{tokens}
use Rattle.jptr_tasks.proofs.ResultLemmas.{located_fails}
use Rattle.jptr_tasks.proofs.result.get.Goals as goal

pub returns-in-Ok-clause-refused : goal.returns-in-Ok-clause-refused
returns-in-Ok-clause-refused c = IfErr-weaker c.lay_out.result _ _ (λ e r. located_fails c.args.lookup.text.now (tokens c.args.lookup.pointer) c.args.fallback.now _ _ _ e c.in-Ok.ensures.located r) c.lay_out.ensures.refused
