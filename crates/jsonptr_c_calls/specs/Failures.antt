-- Why a call fails, with all fields of its error. The faults are in the order in which a call looks for them.
use Rattle.std.specs.Prelude.{◌≡◌, ◌⊎◌, ◌++◌, ◌∷◌, [], ℕ, ◌<◌, ◌≤◌, List, IsUtf8, Some, None, true, length, slice_get, take, ⊤}
use Rattle.std.specs.Str.Lossy.{utf8_valid_len}
use Rattle.serde_json.specs.Data.{Data, string}
use Rattle.serde_json.specs.Find.{as_str}
use Rattle.serde_json.specs.Read.{read}
use Rattle.serde_json.specs.Written.{has_float}
use Rattle.serde_json.specs.declared.value.Value.{Value}
use Rattle.jsonptr.specs.Json.{nodes}
use Rattle.jsonptr.specs.Text.{Text, esc, text}
use Rattle.jsonptr.specs.Types.ParseError.{ParseError}
use Rattle.jsonptr.specs.ParseError.{IsParseErrorOf}
use Rattle.jsonptr.specs.Resolve.{Refuses}
use Rattle.jsonptr.specs.declared.resolve.Error as resolve
use Rattle.jsonptr_c_calls.specs.Handle.{Holds, IsEmpty}
use Rattle.jsonptr_c_calls.specs.declared.handle.Handle.{Handle}
use Rattle.jsonptr_c_calls.specs.Pointers.{ParsesTo}
use Rattle.jsonptr_c_calls.specs.ErrorNumbers.{status_number}
use Rattle.jsonptr_c_calls.specs.Values.{FindsAtPointer, IsJsonText}
use Rattle.jsonptr_text_resolve.specs.declared.format.Format.{Format}
use Rattle.jsonptr_text_resolve.specs.declared.format.Format.TheVariants.{Compact}
use Rattle.jsonptr_c_calls.specs.declared.call_error.Argument.{Argument}
use Rattle.jsonptr_c_calls.specs.declared.call_error.Argument.TheVariants as argument
use Rattle.jsonptr_c_calls.specs.declared.call_error.CallError.{CallError}
use Rattle.jsonptr_c_calls.specs.declared.call_error.CallError.TheVariants.{Memory, NoRoom, NoDocument, NotUtf8, NotJson, NotPointer, NoToken, Resolve, OtherType}

-- `IsOutOfMemory e`: an allocation failed
abbrev pub IsOutOfMemory : CallError → Type 0
IsOutOfMemory (Memory e) = ⊤
IsOutOfMemory e = ⊥

-- `LacksRoom needed room e`: a buffer of `room` bytes is shorter than the `needed` ones, and `e` reports that
abbrev pub LacksRoom : ℕ → ℕ → CallError → Type 0
LacksRoom needed room e = (room < needed) × (e ≡ NoRoom needed)

-- `IsTooShort room e`: a buffer of `room` bytes is shorter than some result, and `e` reports that
abbrev pub IsTooShort : ℕ → CallError → Type 0
IsTooShort room e = (needed : ℕ) × LacksRoom needed room e

-- `IsNotUtf8 a bytes e`: the argument `a`, which is `bytes`, is not UTF-8, and `e` reports where
abbrev pub IsNotUtf8 : Argument → List ℕ → CallError → Type 0
IsNotUtf8 a bytes e = (IsUtf8 bytes → ⊥) × (e ≡ NotUtf8 a (utf8_valid_len bytes))

-- `IsMalformed bytes e`: the `bytes` are UTF-8 but not the text of a pointer, and `e` reports why
abbrev pub IsMalformed : List ℕ → CallError → Type 0
IsMalformed bytes e = (fault : ParseError) × IsUtf8 bytes × IsParseErrorOf bytes fault × (e ≡ NotPointer fault)

-- `IsNoPointer bytes e`: the `bytes` are not the text of a pointer, and `e` reports why
abbrev pub IsNoPointer : List ℕ → CallError → Type 0
IsNoPointer bytes e = IsNotUtf8 argument.Pointer bytes e ⊎ IsMalformed bytes e

-- `LacksToken tokens position room e`: there is no token at this position, or it is longer than `room` bytes, and `e`
-- reports that
abbrev pub LacksToken : List Text → ℕ → ℕ → CallError → Type 0
LacksToken tokens position room e =
    ((slice_get tokens position ≡ None) × (e ≡ NoToken))
    ⊎ ((token : Text) × (slice_get tokens position ≡ Some token) × LacksRoom (length token) room e)

-- `IsNoToken bytes position room e`: no token at this position of the pointer `bytes` can be copied to `room` bytes, and
-- `e` reports why
abbrev pub IsNoToken : List ℕ → ℕ → ℕ → CallError → Type 0
IsNoToken bytes position room e =
    IsNoPointer bytes e
    ⊎ (IsOutOfMemory e ⊎ ((tokens : List Text) × ParsesTo bytes tokens × LacksToken tokens position room e))

-- `IsNotEscaped token room e`: the escaped text of `token` cannot be copied to `room` bytes, and `e` reports why
abbrev pub IsNotEscaped : List ℕ → ℕ → CallError → Type 0
IsNotEscaped token room e =
    IsNotUtf8 argument.Token token e
    ⊎ (IsOutOfMemory e ⊎ (IsUtf8 token × LacksRoom (length (esc token)) room e))

-- `IsNotExtended bytes token e`: no pointer is the pointer `bytes` with the token, and `e` reports why
abbrev pub IsNotExtended : List ℕ → List ℕ → CallError → Type 0
IsNotExtended bytes token e =
    IsNoPointer bytes e
    ⊎ (IsOutOfMemory e ⊎ ((tokens : List Text) × ParsesTo bytes tokens × IsNotUtf8 argument.Token token e))

-- `IsNotPushed n buffer token e`: the pointer in the first `n` bytes of the buffer does not become longer by the token,
-- and `e` reports why: the buffer has no such bytes, there is no longer pointer, or it does not fit the buffer
abbrev pub IsNotPushed : ℕ → List ℕ → List ℕ → CallError → Type 0
IsNotPushed n buffer token e =
    LacksRoom n (length buffer) e
    ⊎ ((n ≤ length buffer) × (IsNotExtended (take n buffer) token e
    ⊎ ((tokens : List Text) × ParsesTo (take n buffer) tokens × IsUtf8 token
    × LacksRoom (length (text (tokens ++ token ∷ []))) (length buffer) e)))

-- `IsNotPopped bytes e`: the pointer `bytes` has no last token, or `bytes` is not the text of a pointer, and `e` reports
-- why
abbrev pub IsNotPopped : List ℕ → CallError → Type 0
IsNotPopped bytes e = IsNoPointer bytes e ⊎ (ParsesTo bytes [] × (e ≡ NoToken))

-- `IsNotParsed text e`: the `text` is not that of a JSON document, or an allocation failed, and `e` reports that
abbrev pub IsNotParsed : List ℕ → CallError → Type 0
IsNotParsed text e =
    IsNotUtf8 argument.Text text e
    ⊎ (IsOutOfMemory e ⊎ ((offset : ℕ) × IsUtf8 text × (read text ≡ None) × (e ≡ NotJson offset)))

-- `Unfound d bytes e`: the pointer `bytes` does not resolve in the document `d`, and `e` reports why
abbrev pub Unfound : Data → List ℕ → CallError → Type 0
Unfound d bytes e =
    IsNoPointer bytes e
    ⊎ (IsOutOfMemory e
    ⊎ ((tokens : List Text) × (error : resolve.Error) × ParsesTo bytes tokens × Refuses (nodes d) tokens error
    × (e ≡ Resolve error)))

-- `IsNotPrinted format d bytes room e`: the text of the value that the pointer `bytes` resolves to does not come to
-- `room` bytes, and `e` reports why
abbrev pub IsNotPrinted : Format → Data → List ℕ → ℕ → CallError → Type 0
IsNotPrinted format d bytes room e =
    Unfound d bytes e
    ⊎ ((v : Data) × (out : List ℕ) × IsUtf8 bytes × FindsAtPointer d bytes v × IsJsonText format v out
    × LacksRoom (length out) room e)

-- `LacksRoomForFloat format d bytes room e`: the value that the pointer `bytes` resolves to contains a float, and a text of it
-- is longer than `room` bytes, and `e` reports that
abbrev pub LacksRoomForFloat : Format → Data → List ℕ → ℕ → CallError → Type 0
LacksRoomForFloat format d bytes room e =
    (v : Data) × (out : List ℕ) × FindsAtPointer d bytes v × (has_float v ≡ true) × IsJsonText format v out
    × LacksRoom (length out) room e

-- `LacksString v room e`: the value `v` is not a string, or one longer than `room` bytes, and `e` reports that
abbrev pub LacksString : Data → ℕ → CallError → Type 0
LacksString v room e =
    ((as_str v ≡ None) × (e ≡ OtherType)) ⊎ ((s : List ℕ) × (v ≡ string s) × LacksRoom (length s) room e)

-- `IsNotRead d bytes room e`: the string that the pointer `bytes` resolves to does not come to `room` bytes, and `e`
-- reports why: there is no value, or it is not a string, or it is longer
abbrev pub IsNotRead : Data → List ℕ → ℕ → CallError → Type 0
IsNotRead d bytes room e =
    Unfound d bytes e ⊎ ((v : Data) × IsUtf8 bytes × FindsAtPointer d bytes v × LacksString v room e)

-- `IsNotQuoted s room e`: `s` is not UTF-8, or an allocation failed, or the JSON text of the string `s` is longer than `room`
-- bytes, and `e` reports that
abbrev pub IsNotQuoted : List ℕ → ℕ → CallError → Type 0
IsNotQuoted s room e =
    IsNotUtf8 argument.Text s e
    ⊎ (IsOutOfMemory e
    ⊎ ((out : List ℕ) × IsUtf8 s × IsJsonText Compact (string s) out × LacksRoom (length out) room e))

-- `IsNotWritten out room e`: the text `out` is longer than `room` bytes, and `e` reports its length, or an allocation
-- failed
abbrev pub IsNotWritten : List ℕ → ℕ → CallError → Type 0
IsNotWritten out room e = IsOutOfMemory e ⊎ LacksRoom (length out) room e

-- `FailsOnHandle d P e`: the handle `d` holds no document, and `e` reports that, or it holds one that meets `P`
abbrev pub FailsOnHandle : Handle → (Value → Type 0) → CallError → Type 0
FailsOnHandle d P e = ((e ≡ NoDocument) × IsEmpty d) ⊎ ((v : Value) × Holds d v × P v)

-- `SameStatus e f`: the errors `e` and `f` have one status, unless one of them is a failed allocation
abbrev pub SameStatus : CallError → CallError → Type 0
SameStatus e f = IsOutOfMemory e ⊎ (IsOutOfMemory f ⊎ (status_number e ≡ status_number f))
