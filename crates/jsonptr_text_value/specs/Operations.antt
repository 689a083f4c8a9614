-- Operations of a patch, with the texts of their values.
use Rattle.std.specs.Prelude.{◌≡◌, List, Some, map, IsTrue, string_bytes}
use Rattle.jsonptr.specs.Text.{Text}
use Rattle.jsonptr_patch.specs.declared.operation.Operation.{Operation}
use Rattle.jsonptr_text_check.specs.Alike.{HoldsTokens}
use Rattle.jsonptr_text_value.specs.Fitting.{brings_value}
use Rattle.jsonptr_text_value.specs.declared.raw_operation.RawOperation.{RawOperation}
use Rattle.jsonptr_text_value.specs.declared.raw_value.RawValue.{RawValue}

-- `operations_in rs` are the operations of `rs`, without the texts of their values
abbrev pub operations_in : List RawOperation → List Operation
operations_in rs = map (λ r. r.operation) rs

-- `IsGivenIn text r`: if the operation of `r` puts a value into the document, a text comes with it. It has the tokens of a
-- part of `text`, one for one
abbrev pub IsGivenIn : Text → RawOperation → Type 0
IsGivenIn text r =
    IsTrue (brings_value r.operation)
    → (raw : RawValue) × (r.raw ≡ Some raw) × HoldsTokens (string_bytes raw.printed.flat) text
