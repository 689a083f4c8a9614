-- What one line writes. Used only by private contracts.
use Rattle.std.specs.Prelude.{◌⊎◌, ℕ, List, [], Bool, true, false, Option, ⊤, string_bytes}
use Rattle.std.specs.Io.KnownBytes.{Appends, Keeps}
use Rattle.jsonptr.specs.Text.{Text}
use Rattle.jsonptr_io.specs.Streams.{AppendsPrefix}
use Rattle.jptr_tasks.specs.LineResults.{LineGives, IsReport, StopsRun}
use Rattle.jptr_tasks.specs.declared.task_error.TaskError.{TaskError}
use Rattle.jptr_tasks.specs.declared.task_error.TaskError.TheVariants.{Memory}
use Rattle.jptr_tasks.specs.declared.line.LineTask.{LineTask}

abbrev pub Known : Type 0
Known = Option (List ℕ)

-- `OrMemory e P`: `P` holds, or `e` is a failed allocation
abbrev pub OrMemory : TaskError → Type 0 → Type 0
OrMemory (Memory f) P = ⊤
OrMemory e P = P

-- `IsNoMemory e`: `e` is not a failed allocation
abbrev pub IsNoMemory : TaskError → Type 0
IsNoMemory (Memory f) = ⊥
IsNoMemory e = ⊤

-- `IsPut run n l w0 w1 e0 e1 fine`: what the line `l` gives is appended to both outputs, and `fine` says whether it has a
-- result
abbrev pub IsPut : LineTask → ℕ → Text → Known → Known → Known → Known → Bool → Type 0
IsPut run n l w0 w1 e0 e1 true = (out : Text) × LineGives run n l out [] × Appends w0 w1 out × Keeps e0 e1
IsPut run n l w0 w1 e0 e1 false =
    (out err : Text)
    × LineGives run n l out err
    × Appends w0 w1 out
    × Appends e0 e1 err
    × IsReport (string_bytes run.name) n err

-- `StopsPut run n l w0 w1 e0 e1 e`: the run ends with `e`. Nothing is written of what the line gives, or a part of it
abbrev pub StopsPut : LineTask → ℕ → Text → Known → Known → Known → Known → TaskError → Type 0
StopsPut run n l w0 w1 e0 e1 e =
    StopsRun e
    × ((Keeps w0 w1 × Keeps e0 e1)
    ⊎ ((out err : Text)
    × LineGives run n l out err
    × AppendsPrefix w0 w1 out
    × AppendsPrefix e0 e1 err))
