-- Values of a document, and their texts.
use Rattle.std.specs.Prelude.{◌≡◌, ℕ, Bool, true, false, List, Some}
use Rattle.serde_json.specs.Data.{Data, string}
use Rattle.serde_json.specs.Read.{read}
use Rattle.serde_json.specs.View.{view}
use Rattle.serde_json.specs.declared.value.Value.{Value}
use Rattle.jsonptr.specs.Json.{FindsValue}
use Rattle.jsonptr.specs.Text.{Text}
use Rattle.jsonptr_value.specs.JsonText.{IsCompact, IsPretty}
use Rattle.jsonptr_c_calls.specs.Handle.{Holds}
use Rattle.jsonptr_c_calls.specs.declared.handle.Handle.{Handle}
use Rattle.jsonptr_c_calls.specs.Pointers.{HasTokens}
use Rattle.jsonptr_text_resolve.specs.declared.format.Format.{Format}
use Rattle.jsonptr_text_resolve.specs.declared.format.Format.TheVariants.{Compact, Pretty}

-- `FindsAtPointer d bytes e`: the pointer `bytes` resolves to the value `e` of the document `d`
abbrev pub FindsAtPointer : Data → List ℕ → Data → Type 0
FindsAtPointer d bytes e = (tokens : List Text) × HasTokens bytes tokens × FindsValue d tokens e

-- `format_of is_pretty`: the format that a flag asks for
abbrev pub format_of : Bool → Format
format_of true = Pretty
format_of false = Compact

-- `IsJsonText format d text`: `text` is the JSON text of the value `d` in this format
abbrev pub IsJsonText : Format → Data → List ℕ → Type 0
IsJsonText Compact d text = IsCompact d text
IsJsonText Pretty d text = IsPretty d text

-- `FindsTextOf format d bytes text`: `text` is that of the value that the pointer `bytes` resolves to
abbrev pub FindsTextOf : Format → Data → List ℕ → List ℕ → Type 0
FindsTextOf format d bytes text = (e : Data) × FindsAtPointer d bytes e × IsJsonText format e text

-- `FindsString d bytes s`: the pointer `bytes` resolves to the string `s`
abbrev pub FindsString : Data → List ℕ → List ℕ → Type 0
FindsString d bytes s = FindsAtPointer d bytes (string s)

-- `HoldsWith d P`: the handle `d` holds a document that meets `P`
abbrev pub HoldsWith : Handle → (Value → Type 0) → Type 0
HoldsWith d P = (v : Value) × Holds d v × P v

-- `ReadsInto text d`: the handle `d` holds the document that `text` is the text of
abbrev pub ReadsInto : List ℕ → Handle → Type 0
ReadsInto text d = HoldsWith d (λ v. read text ≡ Some (view v))

-- `Changes d P n`: the handles `d` and `n` hold documents that `P` relates
abbrev pub Changes : Handle → (Data → Data → Type 0) → Handle → Type 0
Changes d P n = (v w : Value) × Holds d v × Holds n w × P (view v) (view w)
