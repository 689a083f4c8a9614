-- What is known after some lines. Used only by private contracts.
use Rattle.std.specs.Prelude.{◌≡◌, ◌⊎◌, ℕ, List, [], ◌++◌, length}
use Rattle.serde_json.specs.Data.{null}
use Rattle.jsonptr.specs.Text.{Text}
use Rattle.jsonptr.specs.Node.{NodeMap}
use Rattle.jsonptr.specs.Json.{nodes}
use Rattle.jsonptr.specs.Types.Fault.{Fault}
use Rattle.jsonptr.specs.Types.Fault.TheVariants as fault
use Rattle.jsonptr_io.specs.Lines.{IsOneLine, AreLines}
use Rattle.jsonptr_text_paths.specs.Building.{CutsAt, AssignsLines}
use Rattle.jsonptr_text_paths.specs.declared.build.LineError.{LineError}
use Rattle.jsonptr_text_paths.specs.declared.build.BuildError.{BuildError}
use Rattle.jsonptr_text_paths.specs.declared.build.BuildError.TheVariants.{Line, Memory}

-- `IsFirstLine s l rest`: `l` is the first line of `s`, and `rest` is after it
abbrev pub IsFirstLine : Text → Text → Text → Type 0
IsFirstLine s l rest = CutsAt 10 s l rest ⊎ (IsOneLine s × (l ≡ s) × (rest ≡ []))

-- `Progress text rest number m`: the first `number` lines of `text` turn `null` into `m`, and `rest` is after them
pub record Progress (whole rest : Text) (number : ℕ) (m : NodeMap) : Type 0 where
  pub lines : List Text
  pub count : number ≡ length lines
  pub builds : AssignsLines (nodes null) lines m
  pub split : (ls : List Text) → AreLines rest ls → AreLines whole (lines ++ ls)

-- `of_line number f`: the error of the line with this number
abbrev pub of_line : ℕ → Fault LineError → BuildError
of_line number (fault.Refused e) = Line number e
of_line number (fault.Memory e) = Memory e
