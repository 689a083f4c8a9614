use Rattle.std.proofs.Common.{Option, IfSome, string_bytes, refl, subst}
use Rattle.jsonptr_text_check.specs.Alike.{HoldsTokens}
use Rattle.jsonptr_text_value.specs.declared.raw_value.RawValue.{RawValue}
use Rattle.jsonptr_text_value.proofs.operations.with_own.Goals as goal

pub returns-clause-given : goal.returns-clause-given
returns-clause-given c = λ _.
    (c.in-Some.own, refl, subst (λ (o : Option RawValue). IfSome o (λ raw. HoldsTokens (string_bytes raw.printed.flat) c.args.text.now)) c.in-Some.is c.in_ok-own.ensures.found)
