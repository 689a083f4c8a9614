-- Texts that are read only if each number keeps its digits.
use Rattle.std.specs.Prelude.{◌≡◌, ◌⊎◌, ℕ, Bool, IsTrue, IsUtf8, List, None, Some, length}
use Rattle.std.specs.Float.{Float}
use Rattle.serde_json.specs.Data.{Data, float}
use Rattle.serde_json.specs.Read.{read, number_of}
use Rattle.jsonptr.specs.Text.{Text, text}
use Rattle.jsonptr_text_digits.specs.Lost.{Loses}
use Rattle.jsonptr_text_digits.specs.declared.lost.Lost.{Lost}
use Rattle.jsonptr_c_calls.specs.Failures.{IsNotParsed, LacksRoom}
use Rattle.jsonptr_c_calls.specs.Pointers.{HasTokens}
use Rattle.jsonptr_c_calls.specs.declared.call_error.CallError.{CallError}
use Rattle.jsonptr_c_calls.specs.declared.call_error.CallError.TheVariants.{NotExact}

-- `IsLossy t lost`: `t` is the text of a JSON document, and `lost` is the first of its numbers that loses digits
abbrev pub IsLossy : List ℕ → Lost → Type 0
IsLossy t lost = (d : Data) × IsUtf8 t × (read t ≡ Some d) × Loses t lost

-- `LosesDigits t e`: a number of the JSON text `t` loses digits, and `e` reports the first one
abbrev pub LosesDigits : List ℕ → CallError → Type 0
LosesDigits t e = (lost : Lost) × IsLossy t lost × (e ≡ NotExact lost)

-- `IsNotParsedExactly t e`: `t` is not the text of a JSON document, or a number of it loses digits, or an allocation failed,
-- and `e` reports that
abbrev pub IsNotParsedExactly : List ℕ → CallError → Type 0
IsNotParsedExactly t e = IsNotParsed t e ⊎ LosesDigits t e

-- `IsNotParsedBy is_exact t e`: the same of a call that looks for such numbers if `is_exact`
abbrev pub IsNotParsedBy : Bool → List ℕ → CallError → Type 0
IsNotParsedBy is_exact t e = IsNotParsed t e ⊎ (IsTrue is_exact × LosesDigits t e)

-- `PointsTo bytes lost`: the pointer `bytes` is that of the number `lost`
abbrev pub PointsTo : List ℕ → Lost → Type 0
PointsTo bytes lost = (tokens : List Text) × (lost.pointer ≡ Some tokens) × HasTokens bytes tokens

-- `LacksPointerOfNumber lost room e`: the number `lost` has no pointer, or it is longer than `room` bytes, and `e` reports that
abbrev pub LacksPointerOfNumber : Lost → ℕ → CallError → Type 0
LacksPointerOfNumber lost room e =
    ((lost.pointer ≡ None) × (e ≡ NotExact lost))
    ⊎ ((tokens : List Text) × (lost.pointer ≡ Some tokens) × LacksRoom (length (text tokens)) room e)

-- `IsNotPointedTo t room e`: no pointer of the first number of `t` that loses digits can be copied to `room` bytes, and `e`
-- reports why
abbrev pub IsNotPointedTo : List ℕ → ℕ → CallError → Type 0
IsNotPointedTo t room e = IsNotParsed t e ⊎ ((lost : Lost) × IsLossy t lost × LacksPointerOfNumber lost room e)

-- `LacksPointerOfLost t room e`: the first number of `t` that loses digits has no pointer, or it is longer than `room` bytes, and `e`
-- reports that
abbrev pub LacksPointerOfLost : List ℕ → ℕ → CallError → Type 0
LacksPointerOfLost t room e = (lost : Lost) × Loses t lost × LacksPointerOfNumber lost room e

-- `LosesFloat t lost`: `lost` is the first number of `t` that loses digits, and it is read as a float
abbrev pub LosesFloat : List ℕ → Lost → Type 0
LosesFloat t lost = (x : Float) × (loses : Loses t lost) × (number_of loses.raw ≡ Some (float x))

-- `LosesDigitsOfFloat t e`: such a number of `t` loses digits, and `e` reports it
abbrev pub LosesDigitsOfFloat : List ℕ → CallError → Type 0
LosesDigitsOfFloat t e = (lost : Lost) × LosesFloat t lost × (e ≡ NotExact lost)

-- `LacksPointerOfFloat t room e`: such a number of `t` has no pointer, or it is longer than `room` bytes, and `e` reports that
abbrev pub LacksPointerOfFloat : List ℕ → ℕ → CallError → Type 0
LacksPointerOfFloat t room e = (lost : Lost) × LosesFloat t lost × LacksPointerOfNumber lost room e
