use Rattle.serde_json.specs.View.{view}
use Rattle.jptr_tasks.proofs.LongPatchLemmas.{reads_after, not_laid_out}
use Rattle.jptr_tasks.proofs.long_patch.applied.Goals as goal

pub returns-clause-applied : goal.returns-clause-applied
returns-clause-applied c = reads_after c.args.text.now c.args.operations.items (view c.in_ok-document.document) c.relaid.result c.in_ok-document.ensures.applied c.relaid.ensures.reads

pub returns-clause-refused : goal.returns-clause-refused
returns-clause-refused c = not_laid_out c.args.text.now c.args.operations.items (view c.in_ok-document.document) c.relaid.result c.in_ok-document.ensures.applied c.relaid.ensures.refused
