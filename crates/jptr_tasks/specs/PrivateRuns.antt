-- One turn of a run, and what is known after some turns. Used only by private contracts.
use Rattle.std.specs.Prelude.{◌≡◌, ◌≢◌, ◌⊎◌, ℕ, ◌+◌, List, [], length, Bool, true, false}
use Rattle.std.specs.Io.KnownBytes.{Appends, Consumes, IsAtEnd, Keeps}
use Rattle.jsonptr.specs.Text.{Text}
use Rattle.jsonptr_io.specs.Lines.{IsNextLine}
use Rattle.jsonptr_io.specs.PrivateLines.{joined, AreAllLines}
use Rattle.jsonptr_io.specs.Streams.{AppendsPrefix}
use Rattle.jsonptr_io.specs.declared.read.Ending.TheVariants.{Break, Input}
use Rattle.jptr_tasks.specs.LineResults.{LineGives, LinesGive, StopsRun}
use Rattle.jptr_tasks.specs.PrivateLineResults.{Known, IsPut}
use Rattle.jptr_tasks.specs.declared.task_error.TaskError.{TaskError}
use Rattle.jptr_tasks.specs.declared.line.LineTask.{LineTask}
use Rattle.jptr_tasks.specs.declared.lines.Ended.{Ended}
use Rattle.jptr_tasks.specs.declared.lines.Ended.TheVariants.{Fine, WithErrors}
use Rattle.jptr_tasks.specs.declared.lines.Turn.{Turn}
use Rattle.jptr_tasks.specs.declared.lines.Turn.TheVariants.{Line, LastLine, NoLine}

-- `ended_as fine`: how a run ends after its last line
abbrev pub ended_as : Bool → Ended
ended_as true = Fine
ended_as false = WithErrors

-- `IsTurn run n r0 r1 w0 w1 e0 e1 t`: the next line, with the number `n`, is read, and what it gives is written
abbrev pub IsTurn : LineTask → ℕ → Known → Known → Known → Known → Known → Known → Turn → Type 0
IsTurn run n r0 r1 w0 w1 e0 e1 (Line fine) =
    (l : Text) × IsNextLine r0 r1 l Break × IsPut run n l w0 w1 e0 e1 fine
IsTurn run n r0 r1 w0 w1 e0 e1 (LastLine fine) =
    (l : Text) × IsNextLine r0 r1 l Input × IsPut run n l w0 w1 e0 e1 fine
IsTurn run n r0 r1 w0 w1 e0 e1 NoLine = IsAtEnd r0 × Keeps w0 w1 × Keeps e0 e1

-- `StopsTurn run n r0 r1 w0 w1 e0 e1 e`: the turn fails with `e`. Nothing is written, or a part of what the next line gives
abbrev pub StopsTurn : LineTask → ℕ → Known → Known → Known → Known → Known → Known → TaskError → Type 0
StopsTurn run n r0 r1 w0 w1 e0 e1 e =
    StopsRun e
    × ((Keeps w0 w1 × Keeps e0 e1)
    ⊎ ((l out err : Text)
    × (IsNextLine r0 r1 l Break ⊎ IsNextLine r0 r1 l Input)
    × LineGives run n l out err
    × AppendsPrefix w0 w1 out
    × AppendsPrefix e0 e1 err))

-- `RunProgress run n fine r0 r w0 w e0 e`: what is known before the line with the number `n` is read. `fine` says that no line
-- was at fault
pub record RunProgress (run : LineTask) (n : ℕ) (fine : Bool) (r0 r w0 w e0 e : Known) : Type 0 where
  pub lines : List Text
  pub out : Text
  pub err : Text
  pub count : n ≡ length lines + 1
  pub are : AreAllLines lines
  pub gives : LinesGive run 1 lines out err
  pub read : Consumes r0 r (joined lines)
  pub written : Appends w0 w out
  pub reported : Appends e0 e err
  pub clean : fine ≡ true → err ≡ []
  pub faults : fine ≡ false → err ≢ []
  pub strict : run.is_strict ≡ true → fine ≡ true
