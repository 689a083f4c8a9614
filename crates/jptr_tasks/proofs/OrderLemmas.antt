-- Bytes that are not UTF-8 have one error.
use Rattle.std.proofs.Common.{◌≡◌, ℕ, List, refl}
use Rattle.std.specs.Str.{IsUtf8}
use Rattle.jsonptr.specs.Text.{Text}
use Rattle.jptr_tasks.specs.Documents.{TaskFailsOn}
use Rattle.jptr_tasks.specs.LineResults.{IsLineFault, StopsRun}
use Rattle.jptr_tasks.specs.declared.task_error.TaskError.{TaskError}
use Rattle.jptr_tasks.specs.declared.task_error.TaskError.TheVariants.{NotPatch, Resolve, Assign, NotThere, NotRenamed, PatchFailed, TooDeep, NotInPlace, NotLocated, PatchTooDeep, LineBreak, BadLine, NotUtf8, NotJson, Memory, Read, Write}
use Rattle.jptr_tasks.specs.declared.layout.Layout.{Layout}
use Rattle.jptr_tasks.specs.declared.task.Task.{Task}

pub not_utf8 : (task : Task) (layout : Layout) (l : Text) (e : TaskError) → (IsUtf8 l → ⊥) → IsLineFault task layout l e → e ≡ NotJson
not_utf8 task layout l (NotPatch f) other h = absurd (other h.0)
not_utf8 task layout l (Resolve f) other h = absurd (other h.0)
not_utf8 task layout l (Assign f) other h = absurd (other h.0)
not_utf8 task layout l NotThere other h = absurd (other h.0)
not_utf8 task layout l (NotRenamed f) other h = absurd (other h.0)
not_utf8 task layout l (PatchFailed f) other h = absurd (other h.0)
not_utf8 task layout l TooDeep other h = absurd (other h.0)
not_utf8 task layout l NotInPlace other h = absurd (other h.0)
not_utf8 task layout l NotLocated other h = absurd (other h.0)
not_utf8 task layout l PatchTooDeep other h = absurd (other h.0)
not_utf8 task layout l LineBreak other h = absurd (other h.0)
not_utf8 task layout l (BadLine number f) other h = absurd (other h.0)
not_utf8 task layout l NotUtf8 other h = absurd (other h.0)
not_utf8 task layout l NotJson other h = refl
not_utf8 task layout l (Memory f) other h = absurd h
not_utf8 task layout l Read other h = absurd (other h.0)
not_utf8 task layout l Write other h = absurd (other h.0)

pub not_utf8_document : (task : Task) (layout : Layout) (bytes : List ℕ) (e : TaskError) → (IsUtf8 bytes → ⊥) → (StopsRun e → ⊥) → TaskFailsOn task layout bytes e → e ≡ NotJson
not_utf8_document task layout bytes (NotPatch f) other stops h = absurd (other h.0)
not_utf8_document task layout bytes (Resolve f) other stops h = absurd (other h.0)
not_utf8_document task layout bytes (Assign f) other stops h = absurd (other h.0)
not_utf8_document task layout bytes NotThere other stops h = absurd (other h.0)
not_utf8_document task layout bytes (NotRenamed f) other stops h = absurd (other h.0)
not_utf8_document task layout bytes (PatchFailed f) other stops h = absurd (other h.0)
not_utf8_document task layout bytes TooDeep other stops h = absurd (other h.0)
not_utf8_document task layout bytes NotInPlace other stops h = absurd (other h.0)
not_utf8_document task layout bytes NotLocated other stops h = absurd (other h.0)
not_utf8_document task layout bytes PatchTooDeep other stops h = absurd (other h.0)
not_utf8_document task layout bytes LineBreak other stops h = absurd (other h.0)
not_utf8_document task layout bytes (BadLine number f) other stops h = absurd (other h.0)
not_utf8_document task layout bytes NotUtf8 other stops h = absurd (other h.0)
not_utf8_document task layout bytes NotJson other stops h = refl
not_utf8_document task layout bytes (Memory f) other stops h = absurd (stops tt)
not_utf8_document task layout bytes Read other stops h = absurd (other h.0)
not_utf8_document task layout bytes Write other stops h = absurd (other h.0)
