-- The type and the length of a value, as numbers.
use Rattle.std.specs.Prelude.{ℕ, length, Option, Some, None}
use Rattle.serde_json.specs.Data.{Data, string}
use Rattle.jsonptr_value.specs.declared.types.NodeType.{NodeType}
use Rattle.jsonptr_value.specs.declared.types.NodeType.TheVariants as variant

-- `type_number t`: the number of the type `t`
abbrev pub type_number : NodeType → ℕ
type_number variant.Null = 0
type_number variant.Boolean = 1
type_number variant.Number = 2
type_number variant.String = 3
type_number variant.Array = 4
type_number variant.Object = 5

-- `length_or_zero n`: the length `n`, or 0 for a value that has none
abbrev pub length_or_zero : Option ℕ → ℕ
length_or_zero None = 0
length_or_zero (Some n) = n

-- `byte_length_of d`: the number of bytes of the string `d`. It is 0 if the value is not a string
abbrev pub byte_length_of : Data → ℕ
byte_length_of (string s) = length s
byte_length_of d = 0
