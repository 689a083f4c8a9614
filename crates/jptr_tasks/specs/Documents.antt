-- What is printed for a task on one document.
use Rattle.std.specs.Prelude.{◌≡◌, ◌≢◌, ◌⊎◌, ℕ, List, [], ◌∷◌, ◌++◌, Option, ⊤}
use Rattle.std.specs.Io.KnownBytes.{Appends, Keeps}
use Rattle.std.specs.Str.{IsUtf8}
use Rattle.jsonptr.specs.Text.{Text}
use Rattle.jsonptr_io.specs.Streams.{ForInput, AppendsPrefix}
use Rattle.jptr_tasks.specs.Results.{Yields, Fails}
use Rattle.jptr_tasks.specs.declared.task_error.TaskError.{TaskError}
use Rattle.jptr_tasks.specs.declared.task_error.TaskError.TheVariants.{NotJson, Memory, Read, Write}
use Rattle.jptr_tasks.specs.declared.layout.Layout.{Layout}
use Rattle.jptr_tasks.specs.declared.layout.Layout.TheVariants.{Kept}
use Rattle.jptr_tasks.specs.declared.task.Task.{Task}
use Rattle.jptr_tasks.specs.declared.task.Task.TheVariants.{Get, Edit}

-- `EndsInBreak task layout`: a line feed is printed after the result. A changed document that keeps its layout gets none
abbrev pub EndsInBreak : Task → Layout → Type 0
EndsInBreak (Get p fallback) layout = ⊤
EndsInBreak (Edit edit) layout = layout ≢ Kept

-- `Prints task layout bytes out`: `out` is printed for the task on the document `bytes`
abbrev pub Prints : Task → Layout → List ℕ → Text → Type 0
Prints task layout bytes out =
    IsUtf8 bytes
    × ((EndsInBreak task layout × ((new : Text) × Yields task layout bytes new × (out ≡ new ++ 10 ∷ [])))
    ⊎ ((EndsInBreak task layout → ⊥) × Yields task layout bytes out))

-- `TaskFailsOn task layout bytes e`: `e` is why the task has no result on the document `bytes`, unless an allocation
-- failed. Bytes that are not UTF-8 are not JSON
abbrev pub TaskFailsOn : Task → Layout → List ℕ → TaskError → Type 0
TaskFailsOn task layout bytes NotJson = IsUtf8 bytes → Fails task layout bytes NotJson
TaskFailsOn task layout bytes (Memory e) = ⊤
TaskFailsOn task layout bytes e = IsUtf8 bytes × Fails task layout bytes e

-- `PutsDocument task layout known w0 w1`: what is printed for the input is written
abbrev pub PutsDocument : Task → Layout → Option (List ℕ) → Option (List ℕ) → Option (List ℕ) → Type 0
PutsDocument task layout known w0 w1 =
    ForInput known (λ bytes. (out : Text) × Prints task layout bytes out × Appends w0 w1 out)

-- `StopsDocument task layout known w0 w1 e`: the run fails with `e`. Nothing is written, or `e` is a failed write and a
-- prefix of what is printed is written
abbrev pub StopsDocument : Task → Layout → Option (List ℕ) → Option (List ℕ) → Option (List ℕ) → TaskError → Type 0
StopsDocument task layout known w0 w1 Write =
    ForInput known (λ bytes. (out : Text) × Prints task layout bytes out × AppendsPrefix w0 w1 out)
StopsDocument task layout known w0 w1 Read = Keeps w0 w1
StopsDocument task layout known w0 w1 e = Keeps w0 w1 × ForInput known (λ bytes. TaskFailsOn task layout bytes e)
