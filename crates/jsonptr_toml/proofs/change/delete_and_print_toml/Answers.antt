use Rattle.std.proofs.lemmas.Result.{err_from_is_err_and}
use Rattle.toml.specs.View.{view}
use Rattle.jsonptr.specs.Pointer.{tokens}
use Rattle.jsonptr_toml.specs.InToml.{DeletesTo}
use Rattle.jsonptr_toml.proofs.ChangeLemmas.{unread_to_delete, unprinted_after_delete}
use Rattle.jsonptr_toml.proofs.change.delete_and_print_toml.Goals as goal

pub returns-in_err-document-clause-refused : goal.returns-in_err-document-clause-refused
returns-in_err-document-clause-refused c =
    let p = err_from_is_err_and c.from_residual.result c.from_residual.ensures.1 in
    rw (p.1, p.2) (unread_to_delete c.args.text.now (tokens c.args.pointer) _ c.in_err-document.ensures.refused)

pub returns-in_ok-print_toml-in-Some-clause-deleted : goal.returns-in_ok-print_toml-in-Some-clause-deleted
returns-in_ok-print_toml-in-Some-clause-deleted c =
    let found = rw c.in-Some.is at c.in_ok-delete.ensures.found in
    let made : DeletesTo c.args.text.now (tokens c.args.pointer) (view c.delete.new.self) = (view c.in_ok-document.document, c.in_ok-document.ensures.document, (view c.in-Some.field-0, found), c.in_ok-delete.ensures.deleted) in
    (view c.delete.new.self, made, c.in_ok-print_toml-in-Some.ensures.printed)

pub returns-in_err-print_toml-in-Some-clause-refused : goal.returns-in_err-print_toml-in-Some-clause-refused
returns-in_err-print_toml-in-Some-clause-refused c =
    let p = err_from_is_err_and c.from_residual-in_err-print_toml-in-Some.result c.from_residual-in_err-print_toml-in-Some.ensures.1 in
    let found = rw c.in-Some.is at c.in_ok-delete.ensures.found in
    let made : DeletesTo c.args.text.now (tokens c.args.pointer) (view c.delete.new.self) = (view c.in_ok-document.document, c.in_ok-document.ensures.document, (view c.in-Some.field-0, found), c.in_ok-delete.ensures.deleted) in
    rw (p.1, p.2) (unprinted_after_delete c.args.text.now (tokens c.args.pointer) (view c.delete.new.self) _ made c.in_err-print_toml-in-Some.ensures.refused)

pub returns-in-None-clause-deleted : goal.returns-in-None-clause-deleted
returns-in-None-clause-deleted c =
    let none = rw c.in-None.is at c.in_ok-delete.ensures.found in
    (view c.in_ok-document.document, c.in_ok-document.ensures.document, none.0)
