-- What a value is, and the number in it.
use Rattle.std.specs.Prelude.{◌≡◌, ℕ, List, is_some, unwrap_or, option_and_then, option_map, false, pos}
use lib.Ieee.{fin}
use Rattle.serde_json.specs.Data.{Data}
use Rattle.serde_json.specs.Find.{as_bool, as_number, as_i64, as_u64, to_float}
use Rattle.jsonptr_c_calls.specs.NodeTypes.{type_number, length_or_zero, byte_length_of}
use Rattle.jsonptr_value.specs.NodeTypes.{type_of, length_of}
use Rattle.jsonptr_c_calls.specs.Values.{FindsAtPointer}
use Rattle.jsonptr_c_calls.specs.declared.node.NodeInfo.{NodeInfo}

-- `Describes d node`: `node` says what the value `d` is. A number that it does not contain is 0
pub record Describes (d : Data) (node : NodeInfo) : Type 0 where
  pub node_type : node.node_type ≡ type_number (type_of d)
  pub is_true : node.is_true ≡ unwrap_or (as_bool d) false
  pub has_integer : node.has_integer ≡ is_some (option_and_then as_i64 (as_number d))
  pub integer : node.integer ≡ unwrap_or (option_and_then as_i64 (as_number d)) (pos 0)
  pub has_natural : node.has_natural ≡ is_some (option_and_then as_u64 (as_number d))
  pub natural : node.natural ≡ unwrap_or (option_and_then as_u64 (as_number d)) 0
  pub number : node.number ≡ unwrap_or (option_map to_float (as_number d)) (fin false 0 (pos 0))
  pub length : node.length ≡ length_or_zero (length_of d)
  pub byte_length : node.byte_length ≡ byte_length_of d
  pub reserved : node.reserved ≡ 0

-- `FindsNode d bytes node`: `node` says what the value is that the pointer `bytes` resolves to in the document `d`
abbrev pub FindsNode : Data → List ℕ → NodeInfo → Type 0
FindsNode d bytes node = (e : Data) × FindsAtPointer d bytes e × Describes e node
