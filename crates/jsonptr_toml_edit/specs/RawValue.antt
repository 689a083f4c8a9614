-- Why a text is not read as a TOML value.
use Rattle.std.specs.Prelude.{◌≡◌, None, ⊤}
use Rattle.toml.specs.Parse.{parse_value}
use Rattle.jsonptr.specs.Text.{Text}
use Rattle.jsonptr_toml_edit.specs.declared.raw_value.RawTomlError.{RawTomlError}
use Rattle.jsonptr_toml_edit.specs.declared.raw_value.RawTomlError.TheVariants.{NotAValue, Memory}

-- `IsRawTomlError text e`: `e` is why `text` is not read as a value, unless an allocation failed
abbrev pub IsRawTomlError : Text → RawTomlError → Type 0
IsRawTomlError text NotAValue = parse_value text ≡ None
IsRawTomlError text (Memory f) = ⊤
