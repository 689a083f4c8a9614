use Rattle.std.proofs.Common.{IfOk, IfSome, string_bytes, subst}
use Rattle.jsonptr.specs.Text.{Text}
use Rattle.jsonptr.specs.Pointer.{tokens}
use Rattle.jsonptr_text_step.specs.PrivateReaching.{ReplacesScalarByText}
use Rattle.jsonptr_text_step.proofs.replace.replace_scalar.Goals as goal

pub returns-clause-bytes : goal.returns-clause-bytes
returns-clause-bytes c =
    let is = c.in_ok-is_scalar_text.ensures c.if-not-branch.false in
    subst (λ (t : Text). IfOk c.replace_cut.result (λ o. IfSome o (λ s. ReplacesScalarByText t (string_bytes s.text) (tokens c.args.site.now.pointer) (string_bytes c.args.printed.now.flat)))) c.in-Some.ensures
    (c.replace_cut.ensures.scalar is.0 is.1 is.2)
