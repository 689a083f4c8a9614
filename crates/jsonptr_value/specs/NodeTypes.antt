-- The type and the length of a JSON value.
use Rattle.std.specs.Prelude.{ℕ, length, Option, Some, None, chars, codes}
use Rattle.serde_json.specs.Data.{Data, null, boolean, number, string, array, object}
use Rattle.serde_json.specs.Events.{items_len, members_len}
use Rattle.jsonptr_grammar.specs.Text.{Text}
use Rattle.jsonptr_value.specs.declared.types.NodeType.{NodeType}
use Rattle.jsonptr_value.specs.declared.types.NodeType.TheVariants as variant

-- `type_of d`: the type of the value `d`
abbrev pub type_of : Data → NodeType
type_of null = variant.Null
type_of (boolean b) = variant.Boolean
type_of (number n) = variant.Number
type_of (string s) = variant.String
type_of (array ds) = variant.Array
type_of (object ms) = variant.Object

-- `type_name t`: the name of the type `t`
abbrev pub type_name : NodeType → Text
type_name variant.Null = codes "null"
type_name variant.Boolean = codes "boolean"
type_name variant.Number = codes "number"
type_name variant.String = codes "string"
type_name variant.Array = codes "array"
type_name variant.Object = codes "object"

-- `length_of d`: the number of elements or members of the value `d`, or of the characters of a string. No other value has one
abbrev pub length_of : Data → Option ℕ
length_of null = None
length_of (boolean b) = None
length_of (number n) = None
length_of (string s) = Some (length (chars s))
length_of (array ds) = Some (items_len ds)
length_of (object ms) = Some (members_len ms)
