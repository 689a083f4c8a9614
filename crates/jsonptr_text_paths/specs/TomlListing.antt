-- The lines that list the nodes of a TOML document.
use Rattle.std.specs.Prelude.{◌≡◌, ◌⊎◌, List, [], ◌∷◌, ◌++◌, false}
use Rattle.json.specs.Print.{quoted}
use Rattle.toml.specs.Data.{Data, string, integer, float, boolean, datetime, array, table, no_items, no_members}
use Rattle.toml.specs.Text.{IsValueText}
use Rattle.toml_writer.specs.Text.{string_text}
use Rattle.jsonptr.specs.Text.{Text, text}
use Rattle.jsonptr.specs.TomlValue.{nodes, FindsValue}
use Rattle.jsonptr_io.specs.Lines.{IsOneLine}
use Rattle.jsonptr_text_paths.specs.Walking.{IsWalk}
use Rattle.jsonptr_text_paths.specs.Listing.{IsField}
use Rattle.jsonptr_text_paths.specs.declared.listing.Listed.{Listed}
use Rattle.jsonptr_text_paths.specs.declared.listing.Listed.TheVariants as listed

-- `emptied_toml v`: `v` without its elements or members. A scalar stays as it is
abbrev pub emptied_toml : Data → Data
emptied_toml (string s) = string s
emptied_toml (integer z) = integer z
emptied_toml (float x) = float x
emptied_toml (boolean b) = boolean b
emptied_toml (datetime dt) = datetime dt
emptied_toml (array ds) = array no_items
emptied_toml (table ms) = table no_members

-- `IsTomlLeaf v`: `v` is a scalar, an empty array or an empty table
abbrev pub IsTomlLeaf : Data → Type 0
IsTomlLeaf v = emptied_toml v ≡ v

-- `IsShortToml v t`: `t` is the TOML text of `v` without its elements or members. A string whose TOML text contains a line feed
-- is a JSON string
abbrev pub IsShortToml : Data → Text → Type 0
IsShortToml (string s) t =
    (IsOneLine (string_text s) × (t ≡ string_text s)) ⊎ ((IsOneLine (string_text s) → ⊥) × (t ≡ quoted s))
IsShortToml v t = IsValueText false (emptied_toml v) t

-- `IsTomlLineOf p v line`: `line` is the line of the node `v` at the pointer with the text `p`: the pointer, a tab, the value
-- without its elements or members, and a line feed
abbrev pub IsTomlLineOf : Text → Data → Text → Type 0
IsTomlLineOf p v line =
    (field short : Text) × IsField p field × IsShortToml v short × (line ≡ field ++ 9 ∷ (short ++ 10 ∷ []))

-- `IsTomlShown which p v out`: `out` is printed for the node `v` at the pointer with the text `p`. If leaves alone are listed,
-- nothing is printed for any other node
abbrev pub IsTomlShown : Listed → Text → Data → Text → Type 0
IsTomlShown listed.AllNodes p v out = IsTomlLineOf p v out
IsTomlShown listed.Leaves p v out = (IsTomlLeaf v × IsTomlLineOf p v out) ⊎ ((IsTomlLeaf v → ⊥) × (out ≡ []))

-- `AreTomlShown which d lists out`: `out` is printed for the nodes of `d` that the lists of tokens name, in this order
abbrev pub AreTomlShown : Listed → Data → List (List Text) → Text → Type 0
AreTomlShown which d [] out = out ≡ []
AreTomlShown which d (ts ∷ lists) out =
    (v : Data) × (one more : Text)
    × FindsValue d ts v
    × IsTomlShown which (text ts) v one
    × AreTomlShown which d lists more
    × (out ≡ one ++ more)

-- `ListsToml which d out`: `out` lists the nodes of `d`, or its leaves: a line for each, once, in document order
abbrev pub ListsToml : Listed → Data → Text → Type 0
ListsToml which d out = (lists : List (List Text)) × IsWalk (nodes d) lists × AreTomlShown which d lists out
