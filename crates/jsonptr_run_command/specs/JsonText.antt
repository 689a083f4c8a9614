-- The JSON that the program reads and writes.
use Rattle.std.specs.Prelude.{◌≡◌, ℕ, List, [], ◌∷◌, ◌++◌, if◌then◌else◌, Option, None}
use Rattle.std.specs.Str.{is_utf8}
use Rattle.serde_json.specs.Data.{Data}
use Rattle.serde_json.specs.Read.{read}
use Rattle.jsonptr_value.specs.JsonText.{IsCompact}

-- `json_of bytes`: the value of these bytes, if they are UTF-8 and JSON
abbrev pub json_of : List ℕ → Option Data
json_of bytes = if is_utf8 bytes then read bytes else None

-- `IsJsonLine value line`: `line` is a JSON text of `value` and a newline
abbrev pub IsJsonLine : Data → List ℕ → Type 0
IsJsonLine value line = (text : List ℕ) × IsCompact value text × (line ≡ text ++ 10 ∷ [])
