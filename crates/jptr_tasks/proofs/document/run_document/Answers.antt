use Rattle.std.proofs.Common.{ℕ, List, subst}
use Rattle.std.proofs.lemmas.Result.{err_from_is_err_and}
use Rattle.jptr_tasks.specs.Documents.{TaskFailsOn}
use Rattle.jptr_tasks.proofs.DocumentLemmas.{stops_document}
use Rattle.jptr_tasks.proofs.document.run_document.Goals as goal

pub returns-in_err-new-clause-refused : goal.returns-in_err-new-clause-refused
returns-in_err-new-clause-refused g c =
    let p = err_from_is_err_and c.from_residual-in_err-new.result c.from_residual-in_err-new.ensures.1 in
    let fails = subst (λ (b : List ℕ). TaskFailsOn c.args.task.now c.args.layout b c.in_err-new.field-0.0) c.deref.ensures.value c.in_err-new.ensures.refused in
    rw (p.1, p.2) (stops_document c.args.task.now c.args.layout _ _ c.read_into.new.bytes.items _ c.in_ok-read_into.ensures.all fails)
