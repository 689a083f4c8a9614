-- What is written for each line of an input, if each line is a document.
use Rattle.std.specs.Prelude.{◌≡◌, ◌⊎◌, ℕ, ◌+◌, List, [], ◌∷◌, ◌++◌, String, Option, Some, None, codes, decimal, string_bytes, ⊤}
use Rattle.std.specs.Str.{IsUtf8}
use Rattle.std.specs.declared.alloc.Global.{Global}
use Rattle.jsonptr.specs.Text.{Text}
use Rattle.jsonptr_io.specs.Lines.{IsOneLine}
use Rattle.jsonptr_text_piece.specs.Spacing.{IsBlank}
use Rattle.jptr_tasks.specs.Layouts.{CanBreak}
use Rattle.jptr_tasks.specs.Results.{Yields, Fails}
use Rattle.jptr_tasks.specs.declared.task_error.TaskError.{TaskError}
use Rattle.jptr_tasks.specs.declared.task_error.TaskError.TheVariants.{NotJson, LineBreak, Memory, Read, Write}
use Rattle.jptr_tasks.specs.declared.layout.Layout.{Layout}
use Rattle.jptr_tasks.specs.declared.line.LineTask.{LineTask}
use Rattle.jptr_tasks.specs.declared.task.Task.{Task}

-- `YieldsLine task layout l out`: `out` is the result of the task on the line `l`, and is one line
abbrev pub YieldsLine : Task → Layout → Text → Text → Type 0
YieldsLine task layout l out = IsUtf8 l × Yields task layout l out × IsOneLine out

-- `IsLineFault task layout l e`: the line `l` is at fault: `e` is why the task has no result on it, or the result is not one
-- line. If the line `l` is one, as each line of an input is, that takes a layout that can break. A failed allocation is not a
-- fault of the line
abbrev pub IsLineFault : Task → Layout → Text → TaskError → Type 0
IsLineFault task layout l NotJson = IsUtf8 l → Fails task layout l NotJson
IsLineFault task layout l LineBreak =
    IsUtf8 l × (IsOneLine l → CanBreak layout) × ((out : Text) × Yields task layout l out × (IsOneLine out → ⊥))
IsLineFault task layout l (Memory e) = ⊥
IsLineFault task layout l e = IsUtf8 l × Fails task layout l e

-- `fallback_line o`: what is printed for a line at fault
abbrev pub fallback_line : Option (String Global) → Text
fallback_line None = []
fallback_line (Some s) = string_bytes s

-- `IsReport name n text`: `text` reports the line with the number `n` of the input that is called `name`
abbrev pub IsReport : Text → ℕ → Text → Type 0
IsReport name n text =
    (message : Text) × (text ≡ name ++ (codes ":" ++ (decimal n ++ (codes ": " ++ (message ++ 10 ∷ [])))))

-- `LineGives run n l out err`: for the line `l`, with the number `n`, `out` is printed and `err` is reported. A line of white
-- space gives nothing
abbrev pub LineGives : LineTask → ℕ → Text → Text → Text → Type 0
LineGives run n l out err =
    ((s : Text) × YieldsLine run.task run.layout l s × (out ≡ s ++ 10 ∷ []) × (err ≡ []))
    ⊎ (((e : TaskError) × IsLineFault run.task run.layout l e × (IsBlank l → ⊥) × (out ≡ fallback_line run.fallback)
    × IsReport (string_bytes run.name) n err)
    ⊎ (IsBlank l × (out ≡ []) × (err ≡ [])))

-- `LinesGive run n ls out err`: for the lines `ls`, with the numbers from `n` on, `out` is printed and `err` is reported,
-- line by line
abbrev pub LinesGive : LineTask → ℕ → List Text → Text → Text → Type 0
LinesGive run n [] out err = (out ≡ []) × (err ≡ [])
LinesGive run n (l ∷ ls) out err =
    (o r os rs : Text)
    × LineGives run n l o r
    × LinesGive run (n + 1) ls os rs
    × (out ≡ o ++ os)
    × (err ≡ r ++ rs)

-- `StopsRun e`: the error `e` ends the run, whichever line it comes at
abbrev pub StopsRun : TaskError → Type 0
StopsRun (Memory e) = ⊤
StopsRun Read = ⊤
StopsRun Write = ⊤
StopsRun e = ⊥
