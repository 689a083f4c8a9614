-- A number that a pointer resolves to in a JSON document.
use Rattle.std.specs.Prelude.{◌≡◌, ◌⊎◌, ◌≤◌, ℕ, List, Option, Some, None, option_and_then}
use Rattle.serde_json.specs.Data.{Data}
use Rattle.serde_json.specs.Find.{as_number, as_u64}
use Rattle.jsonptr.specs.Text.{Text}
use Rattle.jsonptr.specs.Json.{nodes, FindsValue}
use Rattle.jsonptr.specs.Resolve.{Refuses}
use Rattle.jsonptr.specs.declared.resolve.Error.{Error}

-- `IsNumberAt d ts n`: in the document `d` the tokens `ts` identify the number in `n`, or no value or another one if `n`
-- is `None`
abbrev pub IsNumberAt : Data → List Text → Option ℕ → Type 0
IsNumberAt d ts (Some n) = (v : Data) × FindsValue d ts v × (Some n ≡ option_and_then as_u64 (as_number v))
IsNumberAt d ts None =
    ((e : Error) × Refuses (nodes d) ts e)
    ⊎ ((v : Data) × FindsValue d ts v × (None ≡ option_and_then as_u64 (as_number v)))

-- `IsRangeAt d ts us r`: `r` is the numbers at `ts` and at `us` in the document `d`, if both are there and ascend
abbrev pub IsRangeAt : Data → List Text → List Text → Option (ℕ × ℕ) → Type 0
IsRangeAt d ts us (Some r) = IsNumberAt d ts (Some r.0) × IsNumberAt d us (Some r.1) × (r.0 ≤ r.1)
IsRangeAt d ts us None =
    (m : Option ℕ) × (n : Option ℕ)
    × IsNumberAt d ts m
    × IsNumberAt d us n
    × ((x : ℕ) (y : ℕ) → m ≡ Some x → n ≡ Some y → x ≤ y → ⊥)
