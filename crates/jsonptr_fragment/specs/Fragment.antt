-- The text of a pointer in the fragment of a URI (RFC 6901, section 6; RFC 3986, sections 2.1 and
-- 3.5).
use Rattle.std.specs.Prelude.{◌≡◌, ℕ, ◌+◌, ◌*◌, Bool, ◌&&◌, ◌||◌, nat_le, ◌==◌, List, [], ◌∷◌, IsTrue, IsUtf8, if◌then◌else◌}
use Rattle.std.specs.List.{flat_map}
use Rattle.std.specs.Char.{is_digit, digit_value}
use Rattle.percent_encoding.specs.Percent.{percent_encode_byte}
use Rattle.jsonptr.specs.Text.{Text, text}

-- `is_within low high b`: `b` is one of the bytes from `low` to `high`
abbrev pub is_within : ℕ → ℕ → ℕ → Bool
is_within low high b = nat_le low b && nat_le b high

-- `is_unreserved b`: `b` is a letter, a digit, `-`, `.`, `_` or `~` (RFC 3986, section 2.3)
abbrev pub is_unreserved : ℕ → Bool
is_unreserved b =
    is_within 97 122 b || is_within 65 90 b || is_within 48 57 b || b == 45 || b == 46 || b == 95 || b == 126

-- `is_sub_delim b`: `b` is `!`, `$`, one of `&'()*+,`, `;` or `=` (section 2.2)
abbrev pub is_sub_delim : ℕ → Bool
is_sub_delim b = b == 33 || b == 36 || is_within 38 44 b || b == 59 || b == 61

-- `is_fragment_byte b`: `b` stands for itself in a fragment: it is unreserved, a sub-delimiter, `:`,
-- `@`, `/` or `?` (sections 3.3 and 3.5)
abbrev pub is_fragment_byte : ℕ → Bool
is_fragment_byte b =
    is_unreserved b || is_sub_delim b || b == 58 || b == 64 || b == 47 || b == 63

-- `Encodes s bs`: the text `s` has the form of a fragment without its `#`, and encodes the bytes `bs`.
-- A fragment byte encodes itself, and a `%` with two hexadecimal digits the byte of that number (RFC
-- 3986, sections 2.1 and 3.5)
pub data Encodes : Text → Text → Type 0 where
  nothing : Encodes [] []
  itself : {s bs : Text} (b : ℕ) → IsTrue (is_fragment_byte b) → Encodes s bs → Encodes (b ∷ s) (b ∷ bs)
  escape : {s bs : Text} (high low : ℕ) → IsTrue (is_digit high 16) → IsTrue (is_digit low 16)
      → Encodes s bs
      → Encodes (37 ∷ high ∷ low ∷ s) ((16 * digit_value high + digit_value low) ∷ bs)

-- `IsFragment s`: the text `s` is a `#` and a fragment, which encodes some bytes
abbrev pub IsFragment : Text → Type 0
IsFragment s = (rest bs : Text) × (s ≡ 35 ∷ rest) × Encodes rest bs

-- `IsFragmentOf s ts`: the text `s` is a `#` and a fragment, which encodes the UTF-8 text of the
-- pointer with the tokens `ts`
abbrev pub IsFragmentOf : Text → List Text → Type 0
IsFragmentOf s ts = (rest : Text) × (s ≡ 35 ∷ rest) × Encodes rest (text ts) × IsUtf8 (text ts)

-- `encoded_byte b`: the byte `b` in a fragment: itself if it is a fragment byte, or else `%` and its
-- two hexadecimal digits in upper case
abbrev pub encoded_byte : ℕ → Text
encoded_byte b = if is_fragment_byte b then b ∷ [] else percent_encode_byte b

-- `fragment_of ts`: a `#`, and each byte of the text of the pointer with the tokens `ts`, encoded
abbrev pub fragment_of : List Text → Text
fragment_of ts = 35 ∷ flat_map encoded_byte (text ts)
