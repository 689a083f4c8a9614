-- Two edits in a TOML text.
use Rattle.std.specs.Prelude.{List}
use Rattle.toml.specs.Data.{Data}
use Rattle.jsonptr.specs.Text.{Text}
use Rattle.jsonptr_toml.specs.InToml.{LacksInToml}
use Rattle.jsonptr_toml_edit.specs.Bytes.{AssignsTomlBytes, DeletesTomlBytes}
use Rattle.jsonptr_toml_edit.specs.EditInToml.{AssignsInToml, DeletesInToml}

-- `AssignsAndDeletes text ts v us new`: `new` comes from `text` by two edits in place: `v` is assigned at the tokens `ts`, and
-- then the value is deleted that the tokens `us` identify. Each changes one piece of the text
abbrev pub AssignsAndDeletes : Text → List Text → Data → List Text → Text → Type 0
AssignsAndDeletes text ts v us new =
    (mid : Text) × AssignsInToml text ts v mid × AssignsTomlBytes text ts v mid
    × DeletesInToml mid us new × DeletesTomlBytes mid us new

-- `AssignsAndLacks text ts v us`: `v` can be assigned at the tokens `ts` in place, and the text of that has no value that the
-- tokens `us` identify
abbrev pub AssignsAndLacks : Text → List Text → Data → List Text → Type 0
AssignsAndLacks text ts v us = (mid : Text) × AssignsInToml text ts v mid × AssignsTomlBytes text ts v mid × LacksInToml mid us
