use Rattle.std.proofs.lemmas.Result.{err_from_is_err_and}
use Rattle.jsonptr.specs.Pointer.{tokens}
use Rattle.jsonptr_toml.proofs.ChangeLemmas.{unread_to_find}
use Rattle.jsonptr_toml.proofs.change.resolve_in_toml.Goals as goal

pub returns-in_err-document-clause-refused : goal.returns-in_err-document-clause-refused
returns-in_err-document-clause-refused c =
    let p = err_from_is_err_and c.from_residual.result c.from_residual.ensures.1 in
    rw (p.1, p.2) (unread_to_find c.args.text.now (tokens c.args.pointer) _ c.in_err-document.ensures.refused)
