-- The value of a text that an edit brings.
use Rattle.std.specs.Prelude.{Option, Some, None, string_bytes}
use Rattle.serde_json.specs.Data.{Data, null}
use Rattle.serde_json.specs.Read.{read}
use Rattle.jsonptr_text_value.specs.declared.raw_value.RawValue.{RawValue}

-- `or_null o` is the value `o`, and null if there is none
abbrev pub or_null : Option Data → Data
or_null None = null
or_null (Some d) = d

-- `value_of_raw raw` is the value that the text of `raw` is read as
abbrev pub value_of_raw : RawValue → Data
value_of_raw raw = or_null (read (string_bytes raw.printed.flat))
