-- The offset at which a text first leaves the grammar of RFC 6901, section 3.
--
-- `slice_index s i` is the byte at the offset `i` of `s`, and 0 past the end.
use Rattle.std.specs.Prelude.{◌≡◌, ℕ, ◌+◌, ◌-◌, ◌<◌, ◌≢◌, ◌⊎◌, [], slice_index}
use Rattle.jsonptr_grammar.specs.Text.{Text}

-- `IsFirst P i`: `i` is the least number for which `P` holds
pub record IsFirst (P : ℕ → Type 0) (i : ℕ) : Type 0 where
  pub here : P i
  pub before : (k : ℕ) → k < i → P k → ⊥

-- `IsSlashAt s o`: the byte of `s` at the offset `o` is a `/`, which no token contains
abbrev pub IsSlashAt : Text → ℕ → Type 0
IsSlashAt s o = slice_index s o ≡ 47

-- `EndsEscape s o`: the byte of `s` before the offset `o` is a `~`, and at `o` is none of `0`, `1`
-- and `/`; `o` can be the end of `s`
pub record EndsEscape (s : Text) (o : ℕ) : Type 0 where
  pub inside : 0 < o
  pub after_tilde : slice_index s (o - 1) ≡ 126
  pub no_zero : slice_index s o ≢ 48
  pub no_one : slice_index s o ≢ 49
  pub no_slash : slice_index s o ≢ 47

-- `IsTokenFault s o`: the first fault of `s`, as a token's text, is at the offset `o`
abbrev pub IsTokenFault : Text → ℕ → Type 0
IsTokenFault s o = IsFirst (λ k. IsSlashAt s k ⊎ EndsEscape s k) o

-- `IsLooseTilde s i`: the byte of `s` at the offset `i` is a `~`, followed by neither `0` nor `1`
pub record IsLooseTilde (s : Text) (i : ℕ) : Type 0 where
  pub here : slice_index s i ≡ 126
  pub no_zero : slice_index s (i + 1) ≢ 48
  pub no_one : slice_index s (i + 1) ≢ 49

-- `IsLastSlash s i p`: `p` is the offset of the last `/` of `s` before the offset `i`
pub record IsLastSlash (s : Text) (i p : ℕ) : Type 0 where
  pub below : p < i
  pub here : slice_index s p ≡ 47
  pub after : (k : ℕ) → p < k → k < i → slice_index s k ≢ 47

-- `LacksSlash s`: the text `s` is not empty and does not begin with `/`
pub record LacksSlash (s : Text) : Type 0 where
  pub some : s ≢ []
  pub no_slash : slice_index s 0 ≢ 47

-- `IsTildeFault s p o`: `s` begins with `/`, its first loose `~` is at the offset `p + o`, and its
-- last `/` before that is at `p`
pub record IsTildeFault (s : Text) (p o : ℕ) : Type 0 where
  pub slash : slice_index s 0 ≡ 47
  pub tilde : IsFirst (IsLooseTilde s) (p + o)
  pub last_slash : IsLastSlash s (p + o) p
