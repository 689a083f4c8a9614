-- Why a text is not the fragment of a pointer, and at which byte of the text.
use Rattle.std.specs.Prelude.{◌≡◌, ◌≢◌, ℕ, ◌+◌, false, ◌∷◌, ◌++◌, length, IsTrue, IsUtf8}
use Rattle.std.specs.Char.{is_digit}
use Rattle.std.specs.Str.{IsValidUpTo}
use Rattle.jsonptr.specs.Text.{Text}
use Rattle.jsonptr.specs.ParseError.{IsParseErrorOf, pointer_offset_of, source_offset_of}
use Rattle.jsonptr_fragment.specs.Fragment.{is_fragment_byte, Encodes}
use Rattle.jsonptr_fragment.specs.declared.error.FragmentError.{FragmentError}
use Rattle.jsonptr_fragment.specs.declared.error.FragmentError.TheVariants.{NoHash, BadByte, BadEscape, NotUtf8, NotPointer}

-- `Reaches s bs offset back`: `s` is a `#`, then what encodes the bytes `bs`, and then `back`, which
-- begins at the byte `offset`
abbrev pub Reaches : Text → Text → ℕ → Text → Type 0
Reaches s bs offset back =
    (front : Text) × (s ≡ 35 ∷ front ++ back) × Encodes front bs × (offset ≡ length front + 1)

-- `StartsBadByte back`: `back` begins with a byte that is neither a fragment byte nor `%`
abbrev pub StartsBadByte : Text → Type 0
StartsBadByte back =
    (b : ℕ) × (rest : Text) × (back ≡ b ∷ rest) × (is_fragment_byte b ≡ false) × (b ≢ 37)

-- `LacksDigits s`: `s` does not begin with two hexadecimal digits
abbrev pub LacksDigits : Text → Type 0
LacksDigits s = (high low : ℕ) (more : Text) → s ≡ high ∷ low ∷ more
    → IsTrue (is_digit high 16) → IsTrue (is_digit low 16) → ⊥

-- `StartsBadEscape back`: `back` begins with a `%` that two hexadecimal digits do not follow
abbrev pub StartsBadEscape : Text → Type 0
StartsBadEscape back = (rest : Text) × (back ≡ 37 ∷ rest) × LacksDigits rest

-- `IsFragmentErrorOf s e`: `e` is why `s` is not the fragment of a pointer. The first byte that is not
-- of a fragment comes before bytes that are not UTF-8, and these before a text that is not a pointer
abbrev pub IsFragmentErrorOf : Text → FragmentError → Type 0
IsFragmentErrorOf s NoHash = (rest : Text) → s ≢ 35 ∷ rest
IsFragmentErrorOf s (BadByte offset) =
    (bs back : Text) × Reaches s bs offset back × StartsBadByte back
IsFragmentErrorOf s (BadEscape offset) =
    (bs back : Text) × Reaches s bs offset back × StartsBadEscape back
IsFragmentErrorOf s (NotUtf8 offset) =
    (bs cs back : Text) × Reaches s bs offset back × Encodes back cs
    × IsValidUpTo (bs ++ cs) (length bs)
IsFragmentErrorOf s (NotPointer offset cause) =
    (bs cs back : Text) × Reaches s bs offset back × Encodes back cs
    × IsUtf8 (bs ++ cs) × IsParseErrorOf (bs ++ cs) cause
    × (length bs ≡ pointer_offset_of cause + source_offset_of cause)
