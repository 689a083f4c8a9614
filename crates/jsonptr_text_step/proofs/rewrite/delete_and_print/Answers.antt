use Rattle.std.proofs.Common.{string_bytes}
use Rattle.serde_json.specs.View.{view}
use Rattle.jsonptr.specs.Pointer.{tokens}
use Rattle.jsonptr_text_step.proofs.DeletionLemmas.{deleted_then}
use Rattle.jsonptr_text_step.proofs.rewrite.delete_and_print.Goals as goal

pub returns-clause-deleted : goal.returns-clause-deleted
returns-clause-deleted c =
    let there = rw c.in-Some.is at c.in_ok-delete.ensures.found in
    deleted_then c.args.text.now (string_bytes c.in_ok-to_string-in-Some.field-0) (tokens c.args.pointer) (view c.in_ok-document.document) (view c.delete.new.self) there.path
    c.in_ok-document.ensures.value there.named c.in_ok-delete.ensures.deleted (c.in_ok-delete.ensures.sorted c.in_ok-document.ensures.sorted) c.in_ok-to_string-in-Some.ensures.reads_back
