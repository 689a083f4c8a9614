use Rattle.std.proofs.Common.{sym, subst}
use Rattle.serde_json.specs.View.{view}
use Rattle.jptr_tasks.specs.PrivateResults.{IsRelayoutFault}
use Rattle.jptr_tasks.specs.declared.task_error.TaskError.{TaskError}
use Rattle.jptr_tasks.proofs.LongPatchLemmas.{relayout_fault}
use Rattle.jptr_tasks.proofs.long_patch.relaid.Goals as goal

pub returns-in-Err-clause-refused : goal.returns-in-Err-clause-refused
returns-in-Err-clause-refused c =
    subst (λ (e : TaskError). IsRelayoutFault c.args.text.now (view c.args.document) e) (sym c.from.ensures)
    (relayout_fault c.args.text.now (view c.args.document) c.in-Err.error c.in-Err.ensures.refused)
