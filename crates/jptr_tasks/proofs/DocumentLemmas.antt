-- A task that has no result on the document of an input.
use Rattle.std.proofs.Common.{◌≡◌, ℕ, List, Option, Some, None, IfSome, subst}
use Rattle.std.proofs.KnownBytes.{Keeps-refl}
use Rattle.jsonptr.specs.Text.{Text}
use Rattle.jsonptr_io.specs.Streams.{ForInput}
use Rattle.jptr_tasks.specs.Documents.{TaskFailsOn, StopsDocument}
use Rattle.jptr_tasks.specs.Results.{Fails}
use Rattle.jptr_tasks.specs.declared.task_error.TaskError.{TaskError}
use Rattle.jptr_tasks.specs.declared.task_error.TaskError.TheVariants.{Read, Write}
use Rattle.jptr_tasks.specs.declared.layout.Layout.{Layout}
use Rattle.jptr_tasks.specs.declared.task.Task.{Task}
use Rattle.jptr_tasks.specs.declared.task.Task.TheVariants.{Get, Edit}

for_input : (known : Option (List ℕ)) (P : List ℕ → Type 0) (bytes : List ℕ) → IfSome known (λ xs. bytes ≡ xs) → P bytes → ForInput known P
for_input None P bytes same h = (bytes, h)
for_input (Some xs) P bytes same h = subst P same h

-- a task writes nothing, so no write fails
no_write : (task : Task) (layout : Layout) (text : Text) → Fails task layout text Write → ⊥
no_write (Get p fallback) layout text h = h
no_write (Edit edit) layout text h = h

-- the task fails on all bytes of the input, and nothing is written
pub stops_document : (task : Task) (layout : Layout) (known w : Option (List ℕ)) (bytes : List ℕ) (e : TaskError)
    → IfSome known (λ xs. bytes ≡ xs) → TaskFailsOn task layout bytes e → StopsDocument task layout known w w e
stops_document task layout known w bytes Write same h = absurd (no_write task layout bytes h.1)
stops_document task layout known w bytes Read same h = Keeps-refl w
stops_document task layout known w bytes e same h = (Keeps-refl w, for_input known (λ b. TaskFailsOn task layout b e) bytes same h)
