-- The error of a text that is not a pointer: its fields, its message and its label.
use Rattle.std.specs.Prelude.{◌≡◌, ℕ, ◌+◌, ◌^◌, ◌<◌, ◌≤◌, ◌++◌, List, nat_lt, if◌then◌else◌, Option, codes, decimal, ⊤}
use Rattle.jsonptr_grammar.specs.Text.{Text}
use Rattle.jsonptr_grammar.specs.FirstFault.{LacksSlash, IsTildeFault}
use Rattle.jsonptr_base.specs.Diagnostic.{Mark, IsOneLabel, IsNoLabel}
use Rattle.jsonptr_base.specs.declared.token.InvalidEncoding.TheVariants.{Tilde}
use Rattle.jsonptr_syntax.specs.declared.parse_error.ParseError.{ParseError}
use Rattle.jsonptr_syntax.specs.declared.parse_error.ParseError.TheVariants.{NoLeadingSlash, InvalidEncoding}

-- `IsParseErrorOf s e`: the error `e` is the first fault of the text `s`
abbrev pub IsParseErrorOf : Text → ParseError → Type 0
IsParseErrorOf s NoLeadingSlash = LacksSlash s
IsParseErrorOf s (InvalidEncoding offset source) =
    IsTildeFault s offset source.offset × (source.source ≡ Tilde)

-- `parse_message e` is what the error `e` displays
abbrev pub parse_message : ParseError → Text
parse_message NoLeadingSlash = codes "json pointer failed to parse; does not start with a slash ('/') and is not empty"
parse_message (InvalidEncoding offset source) =
    codes "json pointer failed to parse; the first token in the partial-pointer starting at offset " ++ decimal offset ++ codes " is malformed"

-- `pointer_offset_of e` is the offset of the last `/` before the fault of the error `e`
abbrev pub pointer_offset_of : ParseError → ℕ
pointer_offset_of NoLeadingSlash = 0
pointer_offset_of (InvalidEncoding offset source) = offset

-- `source_offset_of e` is the offset of that fault, counted from `pointer_offset_of e`
abbrev pub source_offset_of : ParseError → ℕ
source_offset_of NoLeadingSlash = 0
source_offset_of (InvalidEncoding offset source) = source.offset

-- `encoding_len_of e len` is the number of bytes that the fault covers in a text of `len` bytes
abbrev pub encoding_len_of : ParseError → ℕ → ℕ
encoding_len_of NoLeadingSlash len = 0
encoding_len_of (InvalidEncoding offset source) len =
    if nat_lt (offset + source.offset + 1) len then 2 else 1

-- `IsParseErrorLabelled e len labels`: `labels` are those of the error `e` on a text of `len`
-- bytes. There are none if the offset of the fault overflows `usize`
abbrev pub IsParseErrorLabelled : ParseError → ℕ → Option (List Mark) → Type 0
IsParseErrorLabelled NoLeadingSlash len labels = IsOneLabel (codes "must start with a slash ('/')") 0 0 labels
IsParseErrorLabelled (InvalidEncoding offset source) len labels =
    (offset + source.offset < 2 ^ 64 → IsOneLabel (codes "'~' must be followed by '0' or '1'") (offset + source.offset) (encoding_len_of (InvalidEncoding offset source) len) labels)
    × (2 ^ 64 ≤ offset + source.offset → IsNoLabel labels)

-- `IsInvalidEncoding e`: the error `e` is that of a `~` followed by neither `0` nor `1`
abbrev pub IsInvalidEncoding : ParseError → Type 0
IsInvalidEncoding NoLeadingSlash = ⊥
IsInvalidEncoding (InvalidEncoding offset source) = ⊤
