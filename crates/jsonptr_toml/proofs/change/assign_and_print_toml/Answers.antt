use Rattle.std.proofs.Common.{inl}
use Rattle.std.proofs.lemmas.Result.{err_from_is_err_and}
use Rattle.toml.specs.View.{view}
use Rattle.jsonptr.specs.Pointer.{tokens}
use Rattle.jsonptr_toml.specs.InToml.{AssignsTo}
use Rattle.jsonptr_toml.proofs.ChangeLemmas.{unread_to_assign, unprinted_after_assign}
use Rattle.jsonptr_toml.proofs.change.assign_and_print_toml.Goals as goal

pub returns-in_err-document-clause-refused : goal.returns-in_err-document-clause-refused
returns-in_err-document-clause-refused c =
    let p = err_from_is_err_and c.from_residual.result c.from_residual.ensures.1 in
    rw (p.1, p.2) (unread_to_assign c.args.text.now (tokens c.args.pointer) (view c.args.value) _ c.in_err-document.ensures.refused)

pub returns-then-has_too_many_tokens-clause-refused : goal.returns-then-has_too_many_tokens-clause-refused
returns-then-has_too_many_tokens-clause-refused c = inl ((view c.in_ok-document.document, c.in_ok-document.ensures.document), c.has_too_many_tokens.ensures.0 c.if-has_too_many_tokens.true)

pub returns-in_err-print_toml-in-Ok-clause-refused : goal.returns-in_err-print_toml-in-Ok-clause-refused
returns-in_err-print_toml-in-Ok-clause-refused c =
    let p = err_from_is_err_and c.from_residual-in_err-print_toml-in-Ok.result c.from_residual-in_err-print_toml-in-Ok.ensures.1 in
    let made : AssignsTo c.args.text.now (tokens c.args.pointer) (view c.args.value) (view c.assign.new.self) = (view c.in_ok-document.document, c.in_ok-document.ensures.document, (_, c.in-Ok.ensures.assigned.assigned)) in
    rw (p.1, p.2) (unprinted_after_assign c.args.text.now (tokens c.args.pointer) (view c.args.value) (view c.assign.new.self) _ made c.in_err-print_toml-in-Ok.ensures.refused)
