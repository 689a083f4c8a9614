use Rattle.std.proofs.Common.{List, sym, subst}
use Rattle.std.proofs.lemmas.Result.{err_from_is_err_and}
use Rattle.toml.specs.Data.{table, no_members}
use Rattle.toml.specs.View.{view}
use Rattle.jsonptr.specs.TomlValue.{nodes, FindsValue, HasSortedKeys}
use Rattle.jsonptr.specs.Pointer.{tokens}
use Rattle.jsonptr.specs.Text.{Text}
use Rattle.jsonptr.proofs.TomlCalling.{FindsValue-Finds, ascends_part}
use Rattle.jsonptr_text_step.specs.PrivateRenaming.{IsTarget}
use Rattle.jsonptr_toml_edit.proofs.ChangingLemmas.{reads_in_order}
use Rattle.jsonptr_toml_edit.proofs.RenamingLemmas.{renames_by, no_refusal, target_there, unread_to_rename, untargeted}
use Rattle.jsonptr_toml_edit.proofs.rename_document.renamed_document.Goals as goal

pub returns-in_err-document-clause-refused : goal.returns-in_err-document-clause-refused
returns-in_err-document-clause-refused c =
    let p = err_from_is_err_and c.from_residual.result c.from_residual.ensures.1 in
    rw (p.1, p.2) (unread_to_rename c.args.text.now (tokens c.args.pointer) c.args.key.now _ c.in_err-document.ensures.refused)

pub returns-in_err-target-clause-refused : goal.returns-in_err-target-clause-refused
returns-in_err-target-clause-refused c =
    let p = err_from_is_err_and c.from_residual-in_err-target.result c.from_residual-in_err-target.ensures.1 in
    rw (p.1, p.2) (untargeted c.args.text.now (tokens c.args.pointer) c.args.key.now (view c.in_ok-document.document) _ c.in_ok-document.ensures.document c.in_err-target.ensures.refused)

pub unreachable-requires-in-None : goal.unreachable-requires-in-None
unreachable-requires-in-None c =
    let none = rw c.in-None.is at c.in_ok-member.ensures.found in
    target_there (nodes (view c.in_ok-document.document)) (tokens c.args.pointer) c.in_ok-target.target c.args.key.now c.in_ok-target.ensures.target none.0

pub unreachable-requires : goal.unreachable-requires
unreachable-requires c =
    let d = view c.in_ok-document.document in
    let target = subst (λ (xs : List Text). IsTarget (nodes d) (tokens c.args.pointer) c.args.key.now xs) (sym c.as_ptr.ensures.tokens) c.in_ok-target.ensures.target in
    let refused = rw c.in-Err-Refused.field-0-is at c.in-Err-Refused.ensures.refused in
    no_refusal c.assign_law.ensures.not_both (nodes d) (nodes (view c.delete.new.self)) (nodes (view c.in-Some.member)) (nodes (table no_members)) (tokens c.args.pointer) (tokens c.as_ptr.result) c.args.key.now c.in-Err-Refused.field-0-0 target c.in_ok-member.ensures.deleted refused

pub returns-in-Ok-clause-renamed : goal.returns-in-Ok-clause-renamed
returns-in-Ok-clause-renamed c =
    let d = view c.in_ok-document.document in
    let ts = tokens c.args.pointer in
    let target = subst (λ (xs : List Text). IsTarget (nodes d) ts c.args.key.now xs) (sym c.as_ptr.ensures.tokens) c.in_ok-target.ensures.target in
    let found : FindsValue d ts (view c.in-Some.member) = rw c.in-Some.is at c.in_ok-member.ensures.found in (
      d,
      c.in_ok-document.ensures.document,
      renames_by (nodes d) (nodes (view c.delete.new.self)) (nodes (view c.in-Some.member)) (nodes (view c.assign.new.self)) (nodes (table no_members)) ts (tokens c.as_ptr.result) c.args.key.now _ target
          (FindsValue-Finds d ts (view c.in-Some.member) found)
          c.in_ok-member.ensures.deleted
          c.in-Ok.ensures.assigned.assigned,
    )

pub returns-in-Ok-clause-sorted : goal.returns-in-Ok-clause-sorted
returns-in-Ok-clause-sorted c =
    let d = view c.in_ok-document.document in
    let old : HasSortedKeys d = reads_in_order c.args.text.now d c.in_ok-document.ensures.document in
    let found : FindsValue d (tokens c.args.pointer) (view c.in-Some.member) = rw c.in-Some.is at c.in_ok-member.ensures.found in
    c.in-Ok.ensures.sorted (ascends_part found.path d (view c.in-Some.member) old found.there) (c.in_ok-member.ensures.sorted old)
