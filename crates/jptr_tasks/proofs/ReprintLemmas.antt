-- Numbers that lose digits in the values of an edit.
use Rattle.std.proofs.Common.{◌≡◌, Option, Some, None, IfSome, MatchOption, string_bytes, sym, subst}
use Rattle.jsonptr_text_digits.specs.Digits.{KeepsDigits}
use Rattle.jsonptr_text_digits.specs.Lost.{Loses}
use Rattle.jsonptr_text_digits.specs.declared.lost.Lost.{Lost}
use Rattle.jsonptr_text_value.specs.declared.raw_operation.RawOperation.{RawOperation}
use Rattle.jsonptr_text_value.specs.declared.raw_value.RawValue.{RawValue}
use Rattle.jptr_tasks.specs.Reprinting.{KeepsGiven, LosesIn}

-- the text of the operation's value keeps its digits, or loses those of a number
pub given_or_lost : (r : RawOperation) (raw : RawValue) → r.raw ≡ Some raw → (o : Option Lost) → MatchOption o (KeepsDigits (string_bytes raw.printed.flat)) (Loses (string_bytes raw.printed.flat)) → MatchOption o (KeepsGiven r) (LosesIn r)
given_or_lost r raw is None h = subst (λ (t : Option RawValue). IfSome t (λ x. KeepsDigits (string_bytes x.printed.flat))) (sym is) h
given_or_lost r raw is (Some lost) h = (raw, is, h)
