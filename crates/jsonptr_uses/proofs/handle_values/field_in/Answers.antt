use Rattle.std.proofs.Common.{subst, length}
use Rattle.jsonptr_c_calls.specs.InTexts.{IsNotPrintedFrom}
use Rattle.jsonptr_c_calls.specs.declared.call_error.CallError.{CallError}
use Rattle.jsonptr_text_resolve.specs.declared.format.Format.TheVariants.{Compact}
use Rattle.jsonptr_uses.proofs.handle_values.field_in.Goals as goal

pub returns-in-Err-Resolve-clause-found : goal.returns-in-Err-Resolve-clause-found
returns-in-Err-Resolve-clause-found c =
    (c.in-Err-Resolve._error, subst (λ (e : CallError). IsNotPrintedFrom Compact c.args.text.now c.args.pointer.now (length c.args.out.now) e) c.in-Err-Resolve.field-0-is c.in-Err-Resolve.ensures.refused)
