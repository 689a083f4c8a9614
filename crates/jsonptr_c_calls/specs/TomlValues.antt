-- The TOML value that a JSON value is.
use Rattle.std.specs.Prelude.{Option, Some, None, option_map}
use Rattle.serde_json.specs.Data as json
use Rattle.serde_json.specs.Find.{as_i64}
use Rattle.toml.specs.Data as toml

-- `both f a b`: `f` of what `a` and `b` hold, if both hold something
abbrev pub both : {A B C : Type 0} → (A → B → C) → Option A → Option B → Option C
both f (Some a) (Some b) = Some (f a b)
both f (Some a) None = None
both f None b = None

-- `toml_number_of n`: the TOML value that the number `n` is. An integer of TOML has 64 bits with a sign
abbrev pub toml_number_of : json.Num → Option toml.Data
toml_number_of (json.unsigned n) = option_map toml.integer (as_i64 (json.unsigned n))
toml_number_of (json.negative z) = option_map toml.integer (as_i64 (json.negative z))
toml_number_of (json.float x) = Some (toml.float x)

-- `toml_value_of d`, `toml_items_of ds`, `toml_members_of ms`: the TOML value that the JSON value `d` is, the elements, and the
-- members. `None`: one of them is null, or an integer that TOML has not
abbrev mutual
  pub toml_value_of : json.Data → Option toml.Data
  toml_value_of json.null = None
  toml_value_of (json.boolean b) = Some (toml.boolean b)
  toml_value_of (json.number n) = toml_number_of n
  toml_value_of (json.string s) = Some (toml.string s)
  toml_value_of (json.array ds) = option_map toml.array (toml_items_of ds)
  toml_value_of (json.object ms) = option_map toml.table (toml_members_of ms)

  pub toml_items_of : json.Items → Option toml.Items
  toml_items_of json.no_items = Some toml.no_items
  toml_items_of (json.item d ds) = both toml.item (toml_value_of d) (toml_items_of ds)

  pub toml_members_of : json.Members → Option toml.Members
  toml_members_of json.no_members = Some toml.no_members
  toml_members_of (json.member k d ms) = both (toml.member k) (toml_value_of d) (toml_members_of ms)
