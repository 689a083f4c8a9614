use Rattle.std.proofs.Common.{◌≤◌, suc, length, inl, subst}
use Rattle.std.proofs.lemmas.Result.{err_from_is_err_and}
use Rattle.toml.specs.Data.{Data}
use Rattle.toml.specs.View.{view}
use Rattle.jsonptr.specs.Pointer.{tokens}
use Rattle.toml_parser.specs.Strings.{recursion_limit as max_depth}
use Rattle.jsonptr.specs.TomlValue.{HasSortedKeys}
use Rattle.jsonptr_toml.specs.InToml.{AssignsTo}
use Rattle.jsonptr_toml_edit.specs.Failing.{AssignsInOrder}
use Rattle.jsonptr_toml_edit.proofs.ChangingLemmas.{reads_in_order, refuted, not_more, assigned_print, unread_to_assign, unprinted_after_assign}
use Rattle.jsonptr_toml_edit.proofs.assign.assign_value_in_toml.Goals as goal

pub returns-in_err-document-clause-refused : goal.returns-in_err-document-clause-refused
returns-in_err-document-clause-refused c =
    let p = err_from_is_err_and c.from_residual.result c.from_residual.ensures.1 in
    rw (p.1, p.2) (unread_to_assign c.args.text.now (tokens c.args.pointer) (view c.args.value.now) _ c.in_err-document.ensures.refused)

pub returns-then-has_too_many_tokens-clause-refused : goal.returns-then-has_too_many_tokens-clause-refused
returns-then-has_too_many_tokens-clause-refused c = inl ((view c.in_ok-document.document, c.in_ok-document.ensures.document), c.has_too_many_tokens.ensures.0 c.if-has_too_many_tokens.true)

pub returns-in-Ok-clause-printed : goal.returns-in-Ok-clause-printed
returns-in-Ok-clause-printed c =
    let d2 = view c.assign.new.self in
    let copied : AssignsTo c.args.text.now (tokens c.args.pointer) (view c.in_ok-copy.copy) d2 = (view c.in_ok-document.document, c.in_ok-document.ensures.document, (_, c.in-Ok.ensures.assigned.assigned)) in
    let made = subst (λ (v : Data). AssignsTo c.args.text.now (tokens c.args.pointer) v d2) c.in_ok-copy.ensures.cases copied in
    assigned_print c.args.text.now (tokens c.args.pointer) (view c.args.value.now) d2 c.in_ok-choose-in-Ok.field-0 made c.in_ok-choose-in-Ok.ensures.printed

pub returns-in_err-choose-in-Ok-clause-refused : goal.returns-in_err-choose-in-Ok-clause-refused
returns-in_err-choose-in-Ok-clause-refused c =
    let p = err_from_is_err_and c.from_residual-in_err-choose-in-Ok.result c.from_residual-in_err-choose-in-Ok.ensures.1 in
    let d2 = view c.assign.new.self in
    let reads = c.in_ok-document.ensures.document in
    let old : HasSortedKeys (view c.in_ok-document.document) = reads_in_order c.args.text.now (view c.in_ok-document.document) reads in
    let copied : AssignsInOrder c.args.text.now (tokens c.args.pointer) (view c.in_ok-copy.copy) d2 = ((view c.in_ok-document.document, reads, (_, c.in-Ok.ensures.assigned.assigned)), λ sorted. c.in-Ok.ensures.sorted sorted old) in
    let made = subst (λ (v : Data). AssignsInOrder c.args.text.now (tokens c.args.pointer) v d2) c.in_ok-copy.ensures.cases copied in
    let short : length (tokens c.args.pointer) ≤ suc max_depth = not_more (suc max_depth) (length (tokens c.args.pointer)) (refuted _ _ c.has_too_many_tokens.ensures.1 c.if-has_too_many_tokens.false) in
    rw (p.1, p.2) (unprinted_after_assign c.args.text.now (tokens c.args.pointer) (view c.args.value.now) d2 _ short made c.in_err-choose-in-Ok.ensures.refused)
