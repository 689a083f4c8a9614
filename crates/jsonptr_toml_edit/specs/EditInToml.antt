-- Edits of a TOML document in its text.
use Rattle.std.specs.Prelude.{List, Option, ⊤, string_bytes}
use Rattle.toml.specs.Data.{Data, table, no_members}
use Rattle.jsonptr.specs.Text.{Text}
use Rattle.jsonptr.specs.Node.{NodeMap}
use Rattle.jsonptr.specs.TomlValue.{nodes, FindsValue}
use Rattle.jsonptr.specs.Assigning.{Assigns}
use Rattle.jsonptr.specs.Removing.{Deletes}
use Rattle.jsonptr_toml.specs.InToml.{ReadsAsToml}
use Rattle.jsonptr_text_step.specs.declared.stepped.Stepped.{Stepped}
use Rattle.jsonptr_text_step.specs.declared.stepped.Stepped.TheVariants.{InPlace, Rewritten}

-- `AssignsInToml old ts v new`: the texts read as documents, and assigning `v` at the tokens turns the first into the
-- second
abbrev pub AssignsInToml : Text → List Text → Data → Text → Type 0
AssignsInToml old ts v new =
    (d d2 : Data) × ReadsAsToml old d × ReadsAsToml new d2
    × ((replaced : Option NodeMap) × Assigns (nodes d) ts (nodes v) (nodes d2) replaced)

-- `DeletesInToml old ts new`: the texts read as documents, the tokens identify a value of the first, and deleting it turns
-- the first into the second. Deleting the root leaves an empty table
abbrev pub DeletesInToml : Text → List Text → Text → Type 0
DeletesInToml old ts new =
    (d d2 : Data) × ReadsAsToml old d × ReadsAsToml new d2
    × ((v : Data) × FindsValue d ts v) × Deletes (nodes d) ts (nodes (table no_members)) (nodes d2)

-- `IsPrinted P e`: if `e` was printed anew, its text meets `P`
abbrev pub IsPrinted : (Text → Type 0) → Stepped → Type 0
IsPrinted P (InPlace s) = ⊤
IsPrinted P (Rewritten s) = P (string_bytes s)
