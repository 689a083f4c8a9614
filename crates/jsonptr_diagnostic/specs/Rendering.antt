-- A report drawn as lines of text: the subject, and a line for each label below it.
--
-- Texts are lists of characters here. The offset and the length of a label are in bytes.
use Rattle.std.specs.Prelude.{◌≡◌, ℕ, ◌+◌, ◌||◌, Bool, false, min, max, nat_le, nat_lt, if◌then◌else◌, List, [], ◌∷◌, ◌++◌, length, replicate, chars, encode_utf8_all, Option, Some, None}
use Rattle.std.specs.Char.{is_control, len_utf8}
use Rattle.std.specs.Char.Escape.{escape_unicode}
use Rattle.std.specs.Int.{is_in_range}
use Rattle.std.specs.List.{flat_map}
use Rattle.jsonptr_grammar.specs.Text.{Text}
use Rattle.jsonptr_diagnostic.specs.Diagnostic.{Mark}

-- `is_unprintable c`: the character `c` is shown by its code. It is a control character, or it ends
-- a line or changes its direction
abbrev pub is_unprintable : ℕ → Bool
is_unprintable c = is_control c || is_in_range 0x2028 0x202E c || is_in_range 0x2066 0x2069 c

-- `IsPrintable c`: the character `c` is shown as itself
abbrev pub IsPrintable : ℕ → Type 0
IsPrintable c = is_unprintable c ≡ false

-- `shown_for c` are the characters that show the character `c`: itself, or `\u{..}` with its code
abbrev pub shown_for : ℕ → List ℕ
shown_for c = if is_unprintable c then escape_unicode c else c ∷ []

-- `shown cs` are the characters that show the text `cs`
abbrev pub shown : List ℕ → List ℕ
shown cs = flat_map shown_for cs

-- `size cs` is the length of the text `cs` in bytes
abbrev pub size : List ℕ → ℕ
size cs = length (encode_utf8_all cs)

-- `columns p b cs` is the number of columns of those characters of `cs` that pass `p`. The test `p`
-- gets the offsets at which a character starts and ends; the first one starts at the offset `b`
abbrev pub columns : (ℕ → ℕ → Bool) → ℕ → List ℕ → ℕ
columns p b [] = 0
columns p b (c ∷ cs) = (if p b (b + len_utf8 c) then length (shown_for c) else 0) + columns p (b + len_utf8 c) cs

-- `column o cs` is the number of columns before the offset `o`, of the characters of `cs` that end
-- by then
abbrev pub column : ℕ → List ℕ → ℕ
column o cs = columns (λ b e. nat_le e o) 0 cs

-- `carets o n cs` is the number of carets for the `n` bytes of `cs` from the offset `o` on. It is
-- the number of columns of the characters with a byte among them, or 1 if there is none
abbrev pub carets : ℕ → ℕ → List ℕ → ℕ
carets o n cs = max 1 (columns (λ b e. nat_lt (max b o) (min e (o + n))) 0 cs)

-- `label_line cs m` is the line of the label `m` below the text `cs`: spaces up to its column,
-- carets, a space and the message
abbrev pub label_line : List ℕ → Mark → List ℕ
label_line cs m =
    replicate (column m.offset cs) 32
    ++ (replicate (carets m.offset m.len cs) 94 ++ 32 ∷ shown (chars m.text))

-- `drawn cs labels` is the text `cs` as it is shown, and a line feed and the label's line for each
-- of `labels`
abbrev pub drawn : List ℕ → List Mark → List ℕ
drawn cs labels = shown cs ++ flat_map (λ m. 10 ∷ label_line cs m) labels

-- `marks_of labels` are the labels of a result, in order, and the empty list for `None`
abbrev pub marks_of : Option (List Mark) → List Mark
marks_of (Some labels) = labels
marks_of None = []

-- `IsRendered P subject text`: `text` shows `subject` and, below it, labels that meet `P`
pub record IsRendered (P : Option (List Mark) → Type 0) (subject text : Text) : Type 0 where
  pub labels : Option (List Mark)
  pub given : P labels
  pub drawn_so : text ≡ encode_utf8_all (drawn (chars subject) (marks_of labels))
