-- A run over the lines of an input.
use Rattle.std.specs.Prelude.{◌≡◌, ◌≢◌, ℕ, List, [], ◌++◌, length, true, Option, string_bytes}
use Rattle.std.specs.Io.KnownBytes.{Appends}
use Rattle.jsonptr.specs.Text.{Text}
use Rattle.jsonptr_io.specs.Lines.{AreLines}
use Rattle.jsonptr_io.specs.Streams.{ForInput, AppendsPrefix}
use Rattle.jptr_tasks.specs.LineResults.{LinesGive, IsReport, StopsRun}
use Rattle.jptr_tasks.specs.declared.task_error.TaskError.{TaskError}
use Rattle.jptr_tasks.specs.declared.line.LineTask.{LineTask}
use Rattle.jptr_tasks.specs.declared.lines.Ended.{Ended}
use Rattle.jptr_tasks.specs.declared.lines.Ended.TheVariants.{Fine, WithErrors, Stopped}

-- `AreFirstLines bytes ls`: `ls` are the first lines of the input `bytes`, or all of them
abbrev pub AreFirstLines : List ℕ → List Text → Type 0
AreFirstLines bytes ls = (more : List Text) × AreLines bytes (ls ++ more)

-- `IsEnd run bytes ls err ended`: the run over the input `bytes` ends so after the lines `ls`, of which `err` is
-- reported. A strict run reports at most its last line: it stops after the first one at fault
abbrev pub IsEnd : LineTask → List ℕ → List Text → Text → Ended → Type 0
IsEnd run bytes ls err Fine = AreLines bytes ls × (err ≡ [])
IsEnd run bytes ls err WithErrors =
    AreLines bytes ls × (err ≢ []) × (run.is_strict ≡ true → IsReport (string_bytes run.name) (length ls) err)
IsEnd run bytes ls err Stopped =
    AreFirstLines bytes ls × (run.is_strict ≡ true) × IsReport (string_bytes run.name) (length ls) err

-- `IsRun run known w0 w1 e0 e1 ended`: what the lines of the input give is appended to both outputs, and the run ends so
abbrev pub IsRun : LineTask → Option (List ℕ) → Option (List ℕ) → Option (List ℕ) → Option (List ℕ) → Option (List ℕ) → Ended → Type 0
IsRun run known w0 w1 e0 e1 ended =
    ForInput known (λ bytes. (ls : List Text) × (out err : Text)
    × IsEnd run bytes ls err ended
    × LinesGive run 1 ls out err
    × Appends w0 w1 out
    × Appends e0 e1 err)

-- `RunStopsIn run known w0 w1 e0 e1 e`: the run fails with `e`. To both outputs a prefix is appended of what some first lines
-- of the input give
abbrev pub RunStopsIn : LineTask → Option (List ℕ) → Option (List ℕ) → Option (List ℕ) → Option (List ℕ) → Option (List ℕ) → TaskError → Type 0
RunStopsIn run known w0 w1 e0 e1 e =
    StopsRun e
    × ForInput known (λ bytes. (ls : List Text) × (out err : Text)
    × AreFirstLines bytes ls
    × LinesGive run 1 ls out err
    × AppendsPrefix w0 w1 out
    × AppendsPrefix e0 e1 err)
