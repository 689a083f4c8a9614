use Rattle.std.proofs.lemmas.Result.{err_from_is_err_and}
use Rattle.toml.specs.View.{view}
use Rattle.jsonptr.specs.Pointer.{tokens}
use Rattle.jsonptr.specs.TomlValue.{HasSortedKeys}
use Rattle.jsonptr_toml.specs.InToml.{DeletesTo}
use Rattle.jsonptr_toml_edit.specs.Failing.{DeletesInOrder}
use Rattle.jsonptr_toml_edit.proofs.ChangingLemmas.{reads_in_order, deletes_then, deleted_print, unread_to_delete, unprinted_after_delete}
use Rattle.jsonptr_toml_edit.proofs.delete.delete_in_toml.Goals as goal

pub returns-in_err-document-clause-refused : goal.returns-in_err-document-clause-refused
returns-in_err-document-clause-refused c =
    let p = err_from_is_err_and c.from_residual.result c.from_residual.ensures.1 in
    rw (p.1, p.2) (unread_to_delete c.args.text.now (tokens c.args.pointer) _ c.in_err-document.ensures.refused)

pub returns-in_ok-choose-in-Some-clause-deleted : goal.returns-in_ok-choose-in-Some-clause-deleted
returns-in_ok-choose-in-Some-clause-deleted c =
    let found = rw c.in-Some.is at c.in_ok-delete.ensures.found in
    let made : DeletesTo c.args.text.now (tokens c.args.pointer) (view c.delete.new.self) = (view c.in_ok-document.document, c.in_ok-document.ensures.document, (view c.in-Some.field-0, found), c.in_ok-delete.ensures.deleted) in
    deletes_then c.args.text.now (tokens c.args.pointer) (view c.delete.new.self) c.in_ok-choose-in-Some.field-0 made c.in_ok-choose-in-Some.ensures.document

pub returns-in_ok-choose-in-Some-clause-printed : goal.returns-in_ok-choose-in-Some-clause-printed
returns-in_ok-choose-in-Some-clause-printed c =
    let found = rw c.in-Some.is at c.in_ok-delete.ensures.found in
    let made : DeletesTo c.args.text.now (tokens c.args.pointer) (view c.delete.new.self) = (view c.in_ok-document.document, c.in_ok-document.ensures.document, (view c.in-Some.field-0, found), c.in_ok-delete.ensures.deleted) in
    deleted_print c.args.text.now (tokens c.args.pointer) (view c.delete.new.self) c.in_ok-choose-in-Some.field-0 made c.in_ok-choose-in-Some.ensures.printed

pub returns-in_err-choose-in-Some-clause-refused : goal.returns-in_err-choose-in-Some-clause-refused
returns-in_err-choose-in-Some-clause-refused c =
    let p = err_from_is_err_and c.from_residual-in_err-choose-in-Some.result c.from_residual-in_err-choose-in-Some.ensures.1 in
    let found = rw c.in-Some.is at c.in_ok-delete.ensures.found in
    let reads = c.in_ok-document.ensures.document in
    let old : HasSortedKeys (view c.in_ok-document.document) = reads_in_order c.args.text.now (view c.in_ok-document.document) reads in
    let made : DeletesInOrder c.args.text.now (tokens c.args.pointer) (view c.delete.new.self) = ((view c.in_ok-document.document, reads, (view c.in-Some.field-0, found), c.in_ok-delete.ensures.deleted), c.in_ok-delete.ensures.sorted old) in
    rw (p.1, p.2) (unprinted_after_delete c.args.text.now (tokens c.args.pointer) (view c.delete.new.self) _ made c.in_err-choose-in-Some.ensures.refused)

pub returns-in-None-clause-deleted : goal.returns-in-None-clause-deleted
returns-in-None-clause-deleted c =
    let none = rw c.in-None.is at c.in_ok-delete.ensures.found in
    (view c.in_ok-document.document, c.in_ok-document.ensures.document, none.0)
