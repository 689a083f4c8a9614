-- Edits of a text whose document may be printed anew, if no number loses digits.
use Rattle.std.specs.Prelude.{◌≡◌, ◌+◌, ℕ, List, ◌∷◌, Some, IfSome, All, take, drop, string_bytes, ⊤}
use Rattle.jsonptr.specs.Text.{Text}
use Rattle.jsonptr_text_digits.specs.Digits.{KeepsDigits}
use Rattle.jsonptr_text_digits.specs.Lost.{Loses}
use Rattle.jsonptr_text_digits.specs.declared.lost.Lost.{Lost}
use Rattle.jsonptr_text_edit.specs.Edits.{EditsText}
use Rattle.jsonptr_text_edit.specs.Errors.{IsEditError}
use Rattle.jsonptr_text_edit.specs.declared.edit.Edit.{Edit}
use Rattle.jsonptr_text_edit.specs.declared.edit.Edit.TheVariants as edits
use Rattle.jsonptr_text_value.specs.declared.raw_operation.RawOperation.{RawOperation}
use Rattle.jsonptr_text_value.specs.declared.raw_value.RawValue.{RawValue}
use Rattle.jptr_tasks.specs.declared.reprint.DigitLoss.{DigitLoss}
use Rattle.jptr_tasks.specs.declared.reprint.DigitLoss.TheVariants.{Document, Value, Operation}
use Rattle.jptr_tasks.specs.declared.reprint.ExactError.{ExactError}
use Rattle.jptr_tasks.specs.declared.reprint.ExactError.TheVariants as exact

-- `KeepsGiven r`: the text of the operation's value, if it has one, keeps the digits of its numbers
abbrev pub KeepsGiven : RawOperation → Type 0
KeepsGiven r = IfSome r.raw (λ raw. KeepsDigits (string_bytes raw.printed.flat))

-- `LosesIn r lost`: `lost` is the first number that loses digits in the text of the operation's value
abbrev pub LosesIn : RawOperation → Lost → Type 0
LosesIn r lost = (raw : RawValue) × (r.raw ≡ Some raw) × Loses (string_bytes raw.printed.flat) lost

-- `LosesAt rs i lost`: the first operation whose value loses digits is the one at the index `i`, and `lost` is the number
abbrev pub LosesAt : List RawOperation → ℕ → Lost → Type 0
LosesAt rs i lost =
    All KeepsGiven (take i rs) × ((r : RawOperation) × (drop i rs ≡ r ∷ drop (i + 1) rs) × LosesIn r lost)

-- `KeepsGivenDigits edit`: the numbers of the values that the edit brings keep their digits
abbrev pub KeepsGivenDigits : Edit → Type 0
KeepsGivenDigits (edits.Assign pointer raw) = KeepsDigits (string_bytes raw.printed.flat)
KeepsGivenDigits (edits.Delete pointer) = ⊤
KeepsGivenDigits (edits.Rename pointer key) = ⊤
KeepsGivenDigits (edits.Patch patch) = All KeepsGiven patch.operations.items

-- `LosesGiven edit loss`: `loss` is the first number that loses digits in a value that the edit brings
abbrev pub LosesGiven : Edit → DigitLoss → Type 0
LosesGiven (edits.Assign pointer raw) (Value lost) = Loses (string_bytes raw.printed.flat) lost
LosesGiven (edits.Patch patch) (Operation i lost) = LosesAt patch.operations.items i lost
LosesGiven edit loss = ⊥

-- `LosesDigits text edit loss`: `loss` is the first number of the text that loses digits. If there is none, it is the first one in
-- a value that the edit brings
abbrev pub LosesDigits : Text → Edit → DigitLoss → Type 0
LosesDigits text edit (Document lost) = Loses text lost
LosesDigits text edit loss = KeepsDigits text × LosesGiven edit loss

-- `IsExactError text edit e`: `e` is why the edit is not made: it is not possible, or it is, and a number would lose digits
abbrev pub IsExactError : Text → Edit → ExactError → Type 0
IsExactError text edit (exact.Edit e) = IsEditError text edit e
IsExactError text edit (exact.Loses loss) = ((new : Text) × EditsText text edit new) × LosesDigits text edit loss
