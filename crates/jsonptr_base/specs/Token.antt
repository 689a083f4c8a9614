-- Texts that are not tokens: the error of `Token::from_encoded`, its message and its label.
use Rattle.std.specs.Prelude.{◌≡◌, ◌≢◌, ℕ, ◌-◌, ◌<◌, ◌++◌, List, Option, codes, decimal}
use Rattle.jsonptr_grammar.specs.Text.{Text}
use Rattle.jsonptr_grammar.specs.FirstFault.{IsTokenFault, IsSlashAt, EndsEscape}
use Rattle.jsonptr_diagnostic.specs.Diagnostic.{Mark, IsOneLabel, IsNoLabel}
use Rattle.jsonptr_base.specs.declared.token.EncodingError.{EncodingError}
use Rattle.jsonptr_base.specs.declared.token.InvalidEncoding.{InvalidEncoding}
use Rattle.jsonptr_base.specs.declared.token.InvalidEncoding.TheVariants.{Tilde, Slash}

-- `IsEncodingCause s o cause`: `cause` is what is wrong with the text `s` at the offset `o`
abbrev pub IsEncodingCause : Text → ℕ → InvalidEncoding → Type 0
IsEncodingCause s o Tilde = EndsEscape s o
IsEncodingCause s o Slash = IsSlashAt s o

-- `IsEncodingErrorOf s e`: the error `e` is the first fault of the token's text `s`
pub record IsEncodingErrorOf (s : Text) (e : EncodingError) : Type 0 where
  pub place : IsTokenFault s e.offset
  pub cause : IsEncodingCause s e.offset e.source

-- `encoding_message e` is what the error `e` displays
abbrev pub encoding_message : EncodingError → Text
encoding_message e = codes "token contains invalid encoding at offset " ++ decimal e.offset

-- `cause_message cause` is what `cause` displays
abbrev pub cause_message : InvalidEncoding → Text
cause_message Tilde = codes "tilde (~) not followed by 0 or 1"
cause_message Slash = codes "slash (/) found in token"

-- `IsCauseLabelled cause o len labels`: `labels` are those of `cause` at the offset `o` of a text
-- of `len` bytes. An escape sequence that the end of the text cuts off is labelled at its `~`
abbrev pub IsCauseLabelled : InvalidEncoding → ℕ → ℕ → Option (List Mark) → Type 0
IsCauseLabelled Slash o len labels = IsOneLabel (codes "invalid character") o 1 labels
IsCauseLabelled Tilde o len labels =
    (o ≢ len → IsOneLabel (codes "must be 0 or 1") o 1 labels)
    × (o ≡ len → 0 < o → IsOneLabel (codes "incomplete escape sequence") (o - 1) 1 labels)
    × (o ≡ len → o ≡ 0 → IsNoLabel labels)

-- `IsEncodingErrorLabelled e len labels`: `labels` are those of the error `e` on a text of `len`
-- bytes
abbrev pub IsEncodingErrorLabelled : EncodingError → ℕ → Option (List Mark) → Type 0
IsEncodingErrorLabelled e len labels = IsCauseLabelled e.source e.offset len labels
