-- Labels of the errors that identify a token of a pointer by its position and by the offset of its slash.
use Rattle.std.specs.Prelude.{◌≡◌, ◌⊎◌, ℕ, ◌+◌, ◌^◌, ◌<◌, ◌≤◌, List, length, nat_lt, if◌then◌else◌, slice_get, Option, Some, None}
use Rattle.jsonptr_grammar.specs.Text.{Text, esc, text}
use Rattle.jsonptr_diagnostic.specs.Diagnostic.{Mark, IsOneLabel, IsNoLabel}

-- `offset_after_slash o tokens`: the offset after a slash at `o` in the text of `tokens`, or `o` if no byte is there
abbrev pub offset_after_slash : ℕ → List Text → ℕ
offset_after_slash o tokens = if nat_lt (o + 1) (length (text tokens)) then o + 1 else o

-- `IsSpan tokens position o start len`: the token at `position` has its slash at the offset `o`. Its span starts at
-- `start`, the offset after that slash, and has `len` bytes, as the encoded token has
pub record IsSpan (tokens : List Text) (position o start len : ℕ) : Type 0 where
  pub token : Text
  pub there : slice_get tokens position ≡ Some token
  pub fits : o + 1 < 2 ^ 64
  pub start_is : start ≡ offset_after_slash o tokens
  pub len_is : len ≡ length (esc token)

-- `HasNoSpan tokens position o`: there is no token at `position`, or the offset after `o` does not fit `usize`
abbrev pub HasNoSpan : List Text → ℕ → ℕ → Type 0
HasNoSpan tokens position o = (slice_get tokens position ≡ None) ⊎ (2 ^ 64 ≤ o + 1)

-- `IsTokenLabelled words position o tokens labels`: `labels` is one label with the text `words` on the span of the token
-- at `position`, or no label if it has no span
pub record IsTokenLabelled (words : Text) (position o : ℕ) (tokens : List Text) (labels : Option (List Mark)) : Type 0 where
  pub one : (start len : ℕ) → IsSpan tokens position o start len → IsOneLabel words start len labels
  pub none : HasNoSpan tokens position o → IsNoLabel labels
