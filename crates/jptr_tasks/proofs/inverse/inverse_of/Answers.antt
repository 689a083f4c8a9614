use Rattle.std.proofs.lemmas.Result.{err_from_is_err_and}
use Rattle.serde_json.specs.View.{view}
use Rattle.jptr_tasks.proofs.InverseLemmas.{not_patch, not_json, not_applied, not_printed}
use Rattle.jptr_tasks.proofs.inverse.inverse_of.Goals as goal

pub returns-in_err-operations-clause-refused : goal.returns-in_err-operations-clause-refused
returns-in_err-operations-clause-refused c =
    let p = err_from_is_err_and c.from_residual.result c.from_residual.ensures.1 in
    rw (p.1, p.2) (not_patch c.args.text.now (view c.args.patch.now) _ c.in_err-operations.ensures.refused)

pub returns-in_err-document-clause-refused : goal.returns-in_err-document-clause-refused
returns-in_err-document-clause-refused c =
    let p = err_from_is_err_and c.from_residual-in_err-document.result c.from_residual-in_err-document.ensures.1 in
    rw (p.1, p.2) (not_json c.args.text.now (view c.args.patch.now) c.in_ok-operations.operations.items _ c.in_ok-operations.ensures.patch c.in_err-document.ensures.refused)

pub returns-in_err-inverse-clause-refused : goal.returns-in_err-inverse-clause-refused
returns-in_err-inverse-clause-refused c =
    let p = err_from_is_err_and c.from_residual-in_err-inverse.result c.from_residual-in_err-inverse.ensures.1 in
    rw (p.1, p.2) (not_applied c.args.text.now (view c.args.patch.now) (view c.in_ok-document.document) c.in_ok-operations.operations.items _ c.in_ok-operations.ensures.patch c.in_ok-document.ensures.read c.in_err-inverse.ensures.refused)

pub returns-in_err-text-clause-refused : goal.returns-in_err-text-clause-refused
returns-in_err-text-clause-refused c =
    let p = err_from_is_err_and c.from_residual-in_err-text.result c.from_residual-in_err-text.ensures.1 in
    rw (p.1, p.2) (not_printed c.args.text.now (view c.args.patch.now) (view c.in_ok-document.document) c.in_ok-operations.operations.items c.in_ok-inverse.inverse.items _ c.in_ok-operations.ensures.patch c.in_ok-document.ensures.read c.in_ok-inverse.ensures.taken_back (λ s all. c.in_ok-inverse.ensures.sorted all s) (λ s. c.patch_document_law.ensures.sorted (view c.args.patch.now) c.in_ok-operations.operations.items s c.in_ok-operations.ensures.patch) c.in_err-text.ensures.refused)
