-- Numbers that a text loses, and texts that are read with all their digits.
use Rattle.std.specs.Prelude.{◌≡◌, ℕ, List, IfSome, Some, drop, length, take}
use Rattle.json.specs.Lex.{tokens}
use Rattle.serde_json.specs.Data.{Data}
use Rattle.serde_json.specs.Read.{read}
use Rattle.jsonptr.specs.Text.{Text}
use Rattle.jsonptr.specs.Json.{FindsValue}
use Rattle.jsonptr_text_digits.specs.Digits.{FirstLost}
use Rattle.jsonptr_text_digits.specs.declared.lost.Lost.{Lost}

-- `Identifies text raw p`: in `text`, the tokens `p` identify what the number `raw` is read as
abbrev pub Identifies : Text → Text → List Text → Type 0
Identifies text raw p = (d : Data) × (whole : Data) × (read raw ≡ Some d) × (read text ≡ Some whole) × FindsValue whole p d

-- `IsAt text raw n`: the bytes of `text` at the offset `n` are `raw`
abbrev pub IsAt : Text → Text → ℕ → Type 0
IsAt text raw n = take (length raw) (drop n text) ≡ raw

-- `LocatesNumber text raw lost`: `lost` has the length of the number `raw`. If it has a pointer, this identifies the number in `text`,
-- and if it has an offset, its bytes are there
pub record LocatesNumber (text raw : Text) (lost : Lost) : Type 0 where
  pub identified : IfSome lost.pointer (Identifies text raw)
  pub at : IfSome lost.offset (IsAt text raw)
  pub size : lost.length ≡ length raw

-- `Loses text lost`: `lost` is the first number of `text` that is lost, and where that is
pub record Loses (text : Text) (lost : Lost) : Type 0 where
  pub raw : Text
  pub first : FirstLost raw (tokens text)
  pub located : LocatesNumber text raw lost
