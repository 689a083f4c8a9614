-- Resolving in a JSON text that is not read into a document.
use Rattle.std.specs.Prelude.{◌≡◌, ◌⊎◌, ℕ, IsUtf8, List, None, true, length}
use Rattle.serde_json.specs.Read.{read}
use Rattle.serde_json.specs.View.{view}
use Rattle.serde_json.specs.Written.{has_float}
use Rattle.serde_json.specs.declared.value.Value.{Value}
use Rattle.jsonptr.specs.Text.{Text}
use Rattle.jsonptr_text_resolve.specs.InText.{FindsInText, RefusesInText}
use Rattle.jsonptr.specs.declared.resolve.Error as resolve
use Rattle.jsonptr_c_calls.specs.Failures.{IsNoPointer, IsNotUtf8, IsOutOfMemory, LacksRoom}
use Rattle.jsonptr_c_calls.specs.Pointers.{HasTokens, ParsesTo}
use Rattle.jsonptr_c_calls.specs.Values.{IsJsonText}
use Rattle.jsonptr_text_resolve.specs.declared.format.Format.{Format}
use Rattle.jsonptr_c_calls.specs.declared.call_error.Argument.TheVariants as argument
use Rattle.jsonptr_c_calls.specs.declared.call_error.CallError.{CallError}
use Rattle.jsonptr_c_calls.specs.declared.call_error.CallError.TheVariants.{NotJson, Resolve}

-- `FindsAtPointerInText text bytes v`: the pointer `bytes` resolves to the value `v` in the document that `text` is
abbrev pub FindsAtPointerInText : List ℕ → List ℕ → Value → Type 0
FindsAtPointerInText text bytes v = (tokens : List Text) × HasTokens bytes tokens × FindsInText text tokens (view v)

-- `FindsTextIn format text bytes out`: `out` is the JSON text of that value in this format
abbrev pub FindsTextIn : Format → List ℕ → List ℕ → List ℕ → Type 0
FindsTextIn format text bytes out = (v : Value) × FindsAtPointerInText text bytes v × IsJsonText format (view v) out

-- `LacksValue text tokens e`: `text` is not JSON, or the tokens identify no value in it, and `e` reports why
abbrev pub LacksValue : List ℕ → List Text → CallError → Type 0
LacksValue text tokens e =
    ((offset : ℕ) × (read text ≡ None) × (e ≡ NotJson offset))
    ⊎ ((error : resolve.Error) × RefusesInText text tokens error × (e ≡ Resolve error))

-- `IsNotInText text bytes e`: the pointer `bytes` does not resolve to a value in `text`, and `e` reports why
abbrev pub IsNotInText : List ℕ → List ℕ → CallError → Type 0
IsNotInText text bytes e =
    IsNoPointer bytes e
    ⊎ ((tokens : List Text) × ParsesTo bytes tokens
    × (IsNotUtf8 argument.Text text e ⊎ (IsOutOfMemory e ⊎ (IsUtf8 text × LacksValue text tokens e))))

-- `IsNotPrintedFrom format text bytes room e`: the text of the value does not come to `room` bytes, and `e` reports why
abbrev pub IsNotPrintedFrom : Format → List ℕ → List ℕ → ℕ → CallError → Type 0
IsNotPrintedFrom format text bytes room e =
    IsNotInText text bytes e
    ⊎ (IsOutOfMemory e
    ⊎ ((out : List ℕ) × IsUtf8 bytes × IsUtf8 text × FindsTextIn format text bytes out
    × LacksRoom (length out) room e))

-- `LacksRoomForFloatIn format text bytes room e`: that value contains a float, and a text of it is longer than `room` bytes, and
-- `e` reports that
abbrev pub LacksRoomForFloatIn : Format → List ℕ → List ℕ → ℕ → CallError → Type 0
LacksRoomForFloatIn format text bytes room e =
    (v : Value) × (out : List ℕ) × FindsAtPointerInText text bytes v × (has_float (view v) ≡ true)
    × IsJsonText format (view v) out × LacksRoom (length out) room e
