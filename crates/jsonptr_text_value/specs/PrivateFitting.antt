-- Words of private clauses: a text fits an operation in one way.
use Rattle.std.specs.Prelude.{Option, Some, None}
use Rattle.std.specs.Coded.{Unit-prop}
use Rattle.serde_json.specs.View.{view}
use Rattle.serde_json.specs.declared.value.Value.{Value}
use Rattle.jsonptr_patch.specs.declared.operation.Operation.{Operation}
use Rattle.jsonptr_patch.specs.declared.operation.Operation.TheVariants.{Add, Remove, Replace, Move, Copy, Test}
use Rattle.jsonptr_text_value.specs.Raw.{value_of_raw}
use Rattle.jsonptr_text_value.specs.DataSet.{data_set}
use Rattle.jsonptr_text_value.specs.Fitting.{IsRawTextOf, HasFittingText}
use Rattle.jsonptr_text_value.specs.declared.raw_value.RawValue.{RawValue}

text-prop : (value : Value) (text : Option RawValue) → IsProp (IsRawTextOf value text)
text-prop value None = Unit-prop
text-prop value (Some raw) = data_set (value_of_raw raw) (view value)

-- two proofs that a text fits are the same
pub Fits-prop : (o : Operation) (text : Option RawValue) → IsProp (HasFittingText o text)
Fits-prop (Add path value) text = text-prop value text
Fits-prop (Remove path) text = Unit-prop
Fits-prop (Replace path value) text = text-prop value text
Fits-prop (Move from path) text = Unit-prop
Fits-prop (Copy from path) text = Unit-prop
Fits-prop (Test path value) text = Unit-prop
