-- Array indices (RFC 6901, section 4).
use Rattle.std.specs.Prelude.{◌≡◌, ◌≢◌, ℕ, ◌<◌, ◌≤◌, ◌^◌, ◌==◌, not, List, [], ◌∷◌, ◌++◌, length, drop, slice_index, position, chars, string_bytes, codes, decimal, Option, Some, Result, Ok, Err}
use Rattle.std.specs.Char.{is_ascii_digit}
use Rattle.std.specs.List.{prefix_len}
use Rattle.jsonptr_grammar.specs.Text.{Text, dec, esc}
use Rattle.jsonptr_diagnostic.specs.Diagnostic.{Mark, IsOneLabel, IsNoLabel}
use Rattle.jsonptr_base.specs.declared.index.Index.{Index}
use Rattle.jsonptr_base.specs.declared.index.Index.TheVariants.{Num, Next}
use Rattle.jsonptr_base.specs.declared.index.ParseIndexError.{ParseIndexError}
use Rattle.jsonptr_base.specs.declared.index.ParseIndexError.TheVariants.{InvalidInteger, LeadingZeros, InvalidCharacter}
use Rattle.jsonptr_base.specs.declared.index.IntegerCause.TheVariants.{Empty, Overflow}
use Rattle.jsonptr_base.specs.declared.index.OutOfBoundsError.{OutOfBoundsError}
use Rattle.jsonptr_base.specs.declared.index.StringOrToken.{StringOrToken}
use Rattle.jsonptr_base.specs.declared.index.StringOrToken.TheVariants.{String, Token}

-- `first_nondigit s` is the number of characters of `s` before the first that is not an ASCII digit
abbrev pub first_nondigit : Text → Option ℕ
first_nondigit s = position (λ c. not (is_ascii_digit c)) (chars s)

-- `Reads s r`: parsing the text `s` as an array index returns `r`: the number whose decimal text
-- `s` is, `Next` for `-`, or the error
abbrev pub Reads : Text → Result Index ParseIndexError → Type 0
Reads s (Ok (Num i)) = (s ≡ dec i) × (i < 2 ^ 64)
Reads s (Ok Next) = s ≡ 45 ∷ []
Reads s (Err (InvalidInteger Empty)) = s ≡ []
Reads s (Err (InvalidInteger Overflow)) = (i : ℕ) × (s ≡ dec i) × (2 ^ 64 ≤ i)
Reads s (Err LeadingZeros) = (slice_index s 0 ≡ 48) × (1 < length s)
Reads s (Err (InvalidCharacter offset)) =
    (slice_index s 0 ≢ 48) × (s ≢ 45 ∷ []) × (first_nondigit s ≡ Some offset)

-- `IsBeyond index len e`: `index` is out of the bounds of an array of length `len`, and `e` holds
-- both
abbrev pub IsBeyond : Index → ℕ → OutOfBoundsError → Type 0
IsBeyond (Num i) len e = (len ≤ i) × (e.length ≡ len) × (e.index ≡ i)
IsBeyond Next len e = (e.length ≡ len) × (e.index ≡ len)

-- `IsWithin index len r`: `r` is the number of `index` if it is less than `len`, and the error
-- otherwise
abbrev pub IsWithin : Index → ℕ → Result ℕ OutOfBoundsError → Type 0
IsWithin index len (Ok place) = (index ≡ Num place) × (place < len)
IsWithin index len (Err e) = IsBeyond index len e

-- `position_in len index` is the number of `index` in an array of length `len`; that of `Next` is
-- `len`
abbrev pub position_in : ℕ → Index → ℕ
position_in len (Num i) = i
position_in len Next = len

-- `IsWithinOrNext index len r`: `r` is the number of `index` if it is at most `len`, and the error
-- otherwise
abbrev pub IsWithinOrNext : Index → ℕ → Result ℕ OutOfBoundsError → Type 0
IsWithinOrNext index len (Ok place) = (place ≡ position_in len index) × (place ≤ len)
IsWithinOrNext index len (Err e) =
    (len < position_in len index) × (e.length ≡ len) × (e.index ≡ position_in len index)

-- `index_text index` is the text of `index` in a token
abbrev pub index_text : Index → Text
index_text (Num i) = dec i
index_text Next = 45 ∷ []

-- `bounds_message e` is what the error `e` of an index out of bounds displays
abbrev pub bounds_message : OutOfBoundsError → Text
bounds_message e = codes "index " ++ decimal e.index ++ codes " out of bounds (len: " ++ decimal e.length ++ codes ")"

-- `index_message e` is what the error `e` of a text that is not an index displays
abbrev pub index_message : ParseIndexError → Text
index_message (InvalidInteger cause) = codes "failed to parse token as an integer"
index_message LeadingZeros = codes "token contained leading zeros, which are disallowed by RFC 6901"
index_message (InvalidCharacter offset) = codes "failed to parse token as an index"

-- `subject_text subject` is the string of the subject, or the encoded text of its token
abbrev pub subject_text : StringOrToken → Text
subject_text (String s) = string_bytes s
subject_text (Token t) = esc t

-- `leading_zeros s` is the number of bytes `0` that the text `s` begins with
abbrev pub leading_zeros : Text → ℕ
leading_zeros s = prefix_len (λ b. b == 48) s

-- `nondigits_from o s` is the number of bytes of `s` from the offset `o` to the next ASCII digit,
-- or to the end
abbrev pub nondigits_from : ℕ → Text → ℕ
nondigits_from o s = prefix_len (λ b. not (is_ascii_digit b)) (drop o s)

-- `IsIndexErrorLabelled e s labels`: `labels` are those of the error `e` on the text `s`
abbrev pub IsIndexErrorLabelled : ParseIndexError → Text → Option (List Mark) → Type 0
IsIndexErrorLabelled (InvalidInteger cause) s labels = IsNoLabel labels
IsIndexErrorLabelled LeadingZeros s labels = IsOneLabel (codes "leading zeros") 0 (leading_zeros s) labels
IsIndexErrorLabelled (InvalidCharacter o) s labels =
    IsOneLabel (codes "invalid character(s)") o (nondigits_from o s) labels
