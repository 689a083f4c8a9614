-- The JSON text of a value.
use Rattle.std.specs.Prelude.{◌≡◌, ◌≤◌, ℕ, List, false, Some}
use Rattle.json.specs.Lex as lex
use Rattle.json.specs.Print.{print}
use Rattle.json.specs.Layout.{pretty}
use Rattle.serde_json.specs.Data.{Data, depth}
use Rattle.serde_json.specs.Read.{read, max_depth}
use Rattle.serde_json.specs.Written.{has_float, compact_text, IsInOrder}

-- `IsCompact value text`: `text` is the JSON text of `value` without white space, with all members and elements in order.
-- It reads back as the value. Only the digits of floats are left open
pub record IsCompact (value : Data) (text : List ℕ) : Type 0 where
  pub exact : has_float value ≡ false → text ≡ compact_text value
  pub compact : text ≡ print (lex.tokens text)
  pub order : IsInOrder text value
  pub reads_back : depth value ≤ max_depth → read text ≡ Some value

-- `IsPretty value text`: `text` is the JSON text of `value` with a line for each member and element
pub record IsPretty (value : Data) (text : List ℕ) : Type 0 where
  pub lines : text ≡ pretty (lex.tokens text)
  pub order : IsInOrder text value
  pub reads_back : depth value ≤ max_depth → read text ≡ Some value
