use Rattle.std.proofs.lemmas.Result.{err_from_is_err_and}
use Rattle.serde_json.specs.View.{view}
use Rattle.jsonptr_value.proofs.JsonLemmas.{ascends_read}
use Rattle.jptr_tasks.specs.declared.layout.Layout.TheVariants.{Compact}
use Rattle.jptr_tasks.proofs.LongPatchLemmas.{not_read}
use Rattle.jptr_tasks.proofs.long_patch.document_after.Goals as goal

pub returns-in_err-document-clause-refused : goal.returns-in_err-document-clause-refused
returns-in_err-document-clause-refused c =
    let p = err_from_is_err_and c.from_residual.result c.from_residual.ensures.1 in
    rw (p.1, p.2) (not_read c.args.text.now c.args.operations.items Compact _ c.in_err-document.ensures.refused)

pub returns-in-Ok-clause-applied : goal.returns-in-Ok-clause-applied
returns-in-Ok-clause-applied c =
    let d = view c.in_ok-document.document in
    (d, c.in_ok-document.ensures.read, c.in-Ok.ensures.applied, λ s. c.in-Ok.ensures.sorted s (ascends_read c.args.text.now d c.in_ok-document.ensures.read))
