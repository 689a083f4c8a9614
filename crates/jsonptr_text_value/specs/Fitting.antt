-- When the text that comes with an operation is one of its value.
use Rattle.std.specs.Prelude.{◌≡◌, Option, IfSome, Bool, true, false, ⊤}
use Rattle.serde_json.specs.View.{view}
use Rattle.serde_json.specs.declared.value.Value.{Value}
use Rattle.jsonptr_patch.specs.declared.operation.Operation.{Operation}
use Rattle.jsonptr_patch.specs.declared.operation.Operation.TheVariants.{Add, Remove, Replace, Move, Copy, Test}
use Rattle.jsonptr_text_value.specs.Raw.{value_of_raw}
use Rattle.jsonptr_text_value.specs.declared.raw_value.RawValue.{RawValue}

-- `IsRawTextOf value text`: the text, if there is one, is read as exactly `value`
abbrev pub IsRawTextOf : Value → Option RawValue → Type 0
IsRawTextOf value text = IfSome text (λ raw. value_of_raw raw ≡ view value)

-- `HasFittingText o text`: if the operation `o` puts a value into the document, and a text comes with it, the text is read as exactly
-- that value
abbrev pub HasFittingText : Operation → Option RawValue → Type 0
HasFittingText (Add path value) text = IsRawTextOf value text
HasFittingText (Remove path) text = ⊤
HasFittingText (Replace path value) text = IsRawTextOf value text
HasFittingText (Move from path) text = ⊤
HasFittingText (Copy from path) text = ⊤
HasFittingText (Test path value) text = ⊤

-- `brings_value o`: whether the operation `o` puts the value of its own into the document: an `add` and a `replace` do
abbrev pub brings_value : Operation → Bool
brings_value (Add path value) = true
brings_value (Remove path) = false
brings_value (Replace path value) = true
brings_value (Move from path) = false
brings_value (Copy from path) = false
brings_value (Test path value) = false
