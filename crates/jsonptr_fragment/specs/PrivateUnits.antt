-- What encodes the first byte of a fragment.
use Rattle.std.specs.Prelude.{◌≡◌, ℕ, ◌⊎◌, [], ◌∷◌, ◌++◌, IsTrue}
use Rattle.std.specs.Char.{is_digit}
use Rattle.jsonptr.specs.Text.{Text}
use Rattle.jsonptr_fragment.specs.Fragment.{Encodes}
use Rattle.jsonptr_fragment.specs.FragmentError.{StartsBadByte, StartsBadEscape}

-- `StartsUnit s after`: `s` is what encodes one byte, and then `after`
abbrev pub StartsUnit : Text → Text → Type 0
StartsUnit s after = (unit : Text) × (b : ℕ) × (s ≡ unit ++ after) × Encodes unit (b ∷ [])

-- `StartsNoUnit s`: `s` begins with nothing that encodes a byte
abbrev pub StartsNoUnit : Text → Type 0
StartsNoUnit s = (s ≡ []) ⊎ StartsBadByte s ⊎ StartsBadEscape s

-- `HasDigits s after`: `s` is two hexadecimal digits, and then `after`
abbrev pub HasDigits : Text → Text → Type 0
HasDigits s after = (high low : ℕ) × (s ≡ high ∷ low ∷ after) × IsTrue (is_digit high 16) × IsTrue (is_digit low 16)
