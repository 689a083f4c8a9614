-- The text of its own that a value has where an assignment puts it.
use Rattle.std.specs.Prelude.{◌≡◌, ◌⊎◌, List, ◌++◌, Some, string_bytes}
use Rattle.toml.specs.Data.{Data}
use Rattle.toml.specs.View.{view}
use Rattle.toml.specs.Parse.{parse_value}
use Rattle.jsonptr.specs.Text.{Text}
use Rattle.jsonptr_text_piece.specs.Spacing.{Splices}
use Rattle.jsonptr_toml_edit.specs.EditInToml.{AssignsInToml}
use Rattle.jsonptr_toml_edit.specs.Bytes.{IsBetweenTokens, MakeAlone}
use Rattle.jsonptr_toml_edit.specs.declared.raw_value.RawTomlValue.{RawTomlValue}

-- `TakesOther old ts v before after`: with a text of another value than `v` between the texts `before` and `after`, that value
-- is assigned at the tokens instead
abbrev pub TakesOther : Text → List Text → Data → Text → Text → Type 0
TakesOther old ts v before after =
    (u : Data) × (other : Text) × (u ≡ v → ⊥) × (parse_value other ≡ Some u)
    × AssignsInToml old ts u (before ++ (other ++ after))

-- `HasText old ts v given new`: in the text `new`, the value `v` that is assigned at the tokens has the text `given`, byte for
-- byte: what is there, and nothing else, says which value is assigned
pub record HasText (old : Text) (ts : List Text) (v : Data) (given new : Text) : Type 0 where
  pub before : Text
  pub after : Text
  pub is : new ≡ before ++ (given ++ after)
  pub apart : IsBetweenTokens before after
  pub takes : TakesOther old ts v before after

-- `PutsHeaders old ts v new`: one piece of the text becomes headers and dotted keys that make the value `v`, which is a table
-- or an array of tables
abbrev pub PutsHeaders : Text → List Text → Data → Text → Type 0
PutsHeaders old ts v new = (middle piece : Text) × Splices old new middle piece × MakeAlone ts v piece

-- `AssignsTomlGiven old ts raw new`: the value of `raw` has its own text in `new`, or headers and dotted keys make it
abbrev pub AssignsTomlGiven : Text → List Text → RawTomlValue → Text → Type 0
AssignsTomlGiven old ts raw new =
    HasText old ts (view raw.value) (string_bytes raw.text) new ⊎ PutsHeaders old ts (view raw.value) new
