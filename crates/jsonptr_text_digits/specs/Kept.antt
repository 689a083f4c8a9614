-- Numbers whose digits are kept.
use Rattle.std.specs.Prelude.{◌≡◌, ℕ, ◌*◌, ◌^◌, ◌<◌, ◌≤◌, ◌⊎◌, List, Some, None, true}
use Rattle.std.specs.Str.Parse.{digits_value}
use Rattle.std.specs.Float.{Float}
use Rattle.fast_float.specs.Text.{Parts, digits_of, with_sign, IsInteger}
use Rattle.ryu.specs.Plain.{IsPlusNumber}
use Rattle.serde_json.specs.Data.{Num, unsigned, negative, float}
use Rattle.serde_json.specs.Read.{number_of}
use Rattle.jsonptr_text_digits.specs.Decimal.{parts_of, HaveSameValue}

-- `HasShortDigits p`: `p` has at most 17 significant digits, and an exponent of 64 bits
pub record HasShortDigits (p : Parts) : Type 0 where
  pub significant : ℕ
  pub zeros : ℕ
  pub digits : digits_of p ≡ significant * 10 ^ zeros
  pub few : significant < 10 ^ 17
  pub exponent : digits_value 10 p.exponent < 2 ^ 64

-- `HasHugeExponent p`: the exponent of `p` has more than 64 bits
abbrev pub HasHugeExponent : Parts → Type 0
HasHugeExponent p = 2 ^ 64 ≤ digits_value 10 p.exponent

-- `IsFloatText x s`: `s` is a text in the form in which `serde_json` prints floats, and it is read as `x`
pub record IsFloatText (x : Float) (s : List ℕ) : Type 0 where
  pub form : IsPlusNumber 16 4 s
  pub reads : number_of s ≡ Some (float x)

-- `KeepsValue raw n`: the number `n`, printed, has the decimal value of `raw`: a whole number has the digits of `raw`, which has no
-- point and no exponent; a float has a text in the printer's form of this value, with at most 17 significant digits
abbrev pub KeepsValue : List ℕ → Num → Type 0
KeepsValue raw (unsigned n) = IsInteger (parts_of raw) × (n ≡ digits_of (parts_of raw))
KeepsValue raw (negative z) = IsInteger (parts_of raw) × (z ≡ with_sign true (digits_of (parts_of raw)))
KeepsValue raw (float x) = (s : List ℕ) × IsFloatText x s × HasShortDigits (parts_of s) × HaveSameValue raw s

-- `IsKeptNumber raw`: `raw` is read as a number that keeps its decimal value
abbrev pub IsKeptNumber : List ℕ → Type 0
IsKeptNumber raw = (n : Num) × (number_of raw ≡ Some n) × KeepsValue raw n

-- `IsLost raw`: `raw` is out of range, or it is read as a float, of which some text in the printer's form has another decimal value
-- or more digits than `HasShortDigits` says. A number whose exponent has more than 64 bits counts as lost
abbrev pub IsLost : List ℕ → Type 0
IsLost raw =
    (number_of raw ≡ None)
    ⊎ ((x : Float) × (s : List ℕ) × (number_of raw ≡ Some (float x)) × IsFloatText x s
    × ((¬ HaveSameValue raw s) ⊎ (HasHugeExponent (parts_of raw) ⊎ (¬ HasShortDigits (parts_of s)))))
