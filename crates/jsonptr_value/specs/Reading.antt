-- Why a text is not read.
use Rattle.std.specs.Prelude.{◌≡◌, None, ⊤}
use Rattle.serde_json.specs.Read.{read}
use Rattle.jsonptr_grammar.specs.Text.{Text}
use Rattle.jsonptr_value.specs.declared.from_text.ReadError.{ReadError}
use Rattle.jsonptr_value.specs.declared.from_text.ReadError.TheVariants.{NotJson, Memory}

-- `IsReadError text e`: `e` is why `text` is not read, unless an allocation failed
abbrev pub IsReadError : Text → ReadError → Type 0
IsReadError text NotJson = read text ≡ None
IsReadError text (Memory e) = ⊤
