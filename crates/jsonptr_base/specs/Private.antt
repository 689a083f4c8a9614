-- What one pass over a token's bytes establishes for the next.
--
-- Used only by private contracts; no public contract depends on this file.
use Rattle.std.specs.Prelude.{◌≡◌, ℕ, ◌<◌, ◌≢◌, ◌⊎◌, ◌++◌, length, slice_index}
use Rattle.jsonptr_grammar.specs.Text.{Text, unesc}
use Rattle.jsonptr_grammar.specs.Grammar.{IsToken}
use Rattle.jsonptr_grammar.specs.FirstFault.{IsSlashAt, IsLooseTilde}

-- `IsPlainBefore s i`: the bytes of `s` before the offset `i` contain neither `~` nor `/`
abbrev pub IsPlainBefore : Text → ℕ → Type 0
IsPlainBefore s i = (k : ℕ) → k < i → (slice_index s k ≢ 126) × (slice_index s k ≢ 47)

-- `IsInvalidAt s k`: the byte of `s` at the offset `k` is a `/`, or a `~` that neither `0` nor `1`
-- follows
abbrev pub IsInvalidAt : Text → ℕ → Type 0
IsInvalidAt s k = IsSlashAt s k ⊎ IsLooseTilde s k

-- `HasInvalidBefore s i`: an invalid byte is before the offset `i` of `s`
abbrev pub HasInvalidBefore : Text → ℕ → Type 0
HasInvalidBefore s i = (k : ℕ) × (k < i) × IsInvalidAt s k

-- `IsValidBefore s i`: no invalid byte is before the offset `i` of `s`
abbrev pub IsValidBefore : Text → ℕ → Type 0
IsValidBefore s i = (k : ℕ) → k < i → IsInvalidAt s k → ⊥

-- `IsEscapeCut s plain of rest`: the token's text `s` is `plain`, an escape sequence for `of`, and
-- `rest`
pub record IsEscapeCut (s plain of rest : Text) : Type 0 where
  pub decoded : unesc s ≡ plain ++ of ++ unesc rest
  pub token : IsToken rest
  pub shorter : length rest < length s
