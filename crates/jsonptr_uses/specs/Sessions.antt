-- Documents and values of sessions that are given as JSON texts.
use Rattle.std.specs.Prelude.{Option, Some, None, IsSome, String, string_bytes}
use Rattle.std.specs.declared.alloc.Global.{Global}
use Rattle.serde_json.specs.Data.{Data}
use Rattle.serde_json.specs.Read.{read}
use Rattle.jsonptr.specs.Text.{Text}
use Rattle.jsonptr.specs.Node.{NodeMap}
use Rattle.jsonptr.specs.Json.{nodes}
use Rattle.jsonptr.specs.Documents.{json_blank}

-- `map_if_read d`: the map of the value `d`, or that of `null` if there is none
abbrev pub map_if_read : Option Data → NodeMap
map_if_read None = json_blank
map_if_read (Some d) = nodes d

-- `text_map text`: the map of the JSON value of `text`, or that of `null` if `text` is not JSON
abbrev pub text_map : Text → NodeMap
text_map text = map_if_read (read text)

-- `string_map s`: the same for a Rust string
abbrev pub string_map : String Global → NodeMap
string_map s = text_map (string_bytes s)

-- `IsJsonString s`: the Rust string `s` is a JSON text
abbrev pub IsJsonString : String Global → Type 0
IsJsonString s = IsSome (read (string_bytes s))
