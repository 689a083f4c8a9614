-- Where values are in a JSON text that is not read into a document.
use Rattle.std.specs.Prelude.{◌≡◌, ◌⊎◌, ◌+◌, [], ℕ, IsUtf8, List, length}
use Rattle.serde_json.specs.Data.{Data}
use Rattle.jsonptr.specs.Text.{Text, text}
use Rattle.jsonptr_text_resolve.specs.InText.{FindsInText}
use Rattle.jsonptr_text_step.specs.Locating.{IsLocated, IsLocatedAt, IsOutside}
use Rattle.jsonptr_c_calls.specs.Failures.{IsNoPointer, IsNotUtf8, IsOutOfMemory, LacksRoom}
use Rattle.jsonptr_c_calls.specs.InTexts.{LacksValue}
use Rattle.jsonptr_c_calls.specs.Pointers.{HasTokens, ParsesTo}
use Rattle.jsonptr_c_calls.specs.declared.call_error.Argument.TheVariants as argument
use Rattle.jsonptr_c_calls.specs.declared.call_error.CallError.{CallError}
use Rattle.jsonptr_c_calls.specs.declared.call_error.CallError.TheVariants.{NotLocated, NoValue}

-- `LocatesInText t bytes start end`: the pointer `bytes` resolves to a value in the JSON text `t`, and the bytes of `t` from the
-- offset `start` up to `end` are the text of that value
abbrev pub LocatesInText : List ℕ → List ℕ → ℕ → ℕ → Type 0
LocatesInText t bytes start end =
    (tokens : List Text) × (before piece after : Text) × HasTokens bytes tokens × IsLocated t tokens before piece after
    × (start ≡ length before) × (end ≡ length before + length piece)

-- `LacksLocation t tokens e`: the bytes of the value that the tokens identify in `t` are not found, and `e` reports why. With
-- `NotLocated` the value is there
abbrev pub LacksLocation : List ℕ → List Text → CallError → Type 0
LacksLocation t tokens e =
    IsOutOfMemory e
    ⊎ (LacksValue t tokens e ⊎ ((value : Data) × FindsInText t tokens value × (e ≡ NotLocated)))

-- `IsNotLocated t bytes e`: the bytes of the value that the pointer `bytes` resolves to in `t` are not found, and `e` reports
-- why
abbrev pub IsNotLocated : List ℕ → List ℕ → CallError → Type 0
IsNotLocated t bytes e =
    IsNoPointer bytes e
    ⊎ ((tokens : List Text) × ParsesTo bytes tokens
    × (IsNotUtf8 argument.Text t e ⊎ (IsUtf8 t × LacksLocation t tokens e)))

-- `PointsAt t k bytes`: `bytes` are the pointer of a value of `t`, and the byte of `t` at the offset `k` is one of its text
abbrev pub PointsAt : List ℕ → ℕ → List ℕ → Type 0
PointsAt t k bytes =
    (tokens : List Text) × (before piece after : Text) × HasTokens bytes tokens
    × IsLocatedAt t k tokens before piece after

-- `LacksPointerAt t k room e`: the byte of `t` at the offset `k` is none of the document's, or the pointer of a value there is
-- longer than `room` bytes, and `e` reports that
abbrev pub LacksPointerAt : List ℕ → ℕ → ℕ → CallError → Type 0
LacksPointerAt t k room e =
    (IsOutside t k × (e ≡ NoValue k))
    ⊎ ((tokens : List Text) × (before piece after : Text) × IsLocatedAt t k tokens before piece after
    × LacksRoom (length (text tokens)) room e)

-- `IsNotPointedAt t k room e`: no pointer of a value at the offset `k` of `t` can be copied to `room` bytes, and `e` reports why
abbrev pub IsNotPointedAt : List ℕ → ℕ → ℕ → CallError → Type 0
IsNotPointedAt t k room e =
    IsNotUtf8 argument.Text t e ⊎ (IsUtf8 t × (LacksLocation t [] e ⊎ LacksPointerAt t k room e))
