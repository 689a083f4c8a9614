-- Why a text is not read with all its digits.
use Rattle.std.specs.Prelude.{◌≡◌, None, ⊤}
use Rattle.serde_json.specs.Read.{read}
use Rattle.jsonptr.specs.Text.{Text}
use Rattle.jsonptr_text_digits.specs.Lost.{Loses}
use Rattle.jsonptr_value.specs.declared.from_text.ReadError.{ReadError}
use Rattle.jsonptr_value.specs.declared.from_text.ReadError.TheVariants as unread
use Rattle.jsonptr_text_digits.specs.declared.exact.ExactError.{ExactError}
use Rattle.jsonptr_text_digits.specs.declared.exact.ExactError.TheVariants.{NotJson, Lost, Memory}

-- `IsExactError text e`: `e` is why `text` is not read, unless an allocation failed
abbrev pub IsExactError : Text → ExactError → Type 0
IsExactError text NotJson = read text ≡ None
IsExactError text (Lost l) = Loses text l
IsExactError text (Memory e) = ⊤

-- `exact_of_read e`: the error of reading exactly a text that is not read because of `e`
abbrev pub exact_of_read : ReadError → ExactError
exact_of_read unread.NotJson = NotJson
exact_of_read (unread.Memory e) = Memory e
