-- Which error a task has.
use Rattle.std.specs.Prelude.{◌≡◌, ⊤}
use Rattle.jsonptr_text_edit.specs.Outcomes.{EditHasSortedKeys}
use Rattle.jptr_tasks.specs.declared.task_error.TaskError.{TaskError}
use Rattle.jptr_tasks.specs.declared.task_error.TaskError.TheVariants.{NotInPlace, NotLocated}
use Rattle.jptr_tasks.specs.declared.layout.Layout.{Layout}
use Rattle.jptr_tasks.specs.declared.layout.Layout.TheVariants.{Kept}
use Rattle.jptr_tasks.specs.declared.task.Task.{Task}
use Rattle.jptr_tasks.specs.declared.task.Task.TheVariants.{Get, Edit}

-- `TaskHasSortedKeys task`: the keys of each object in a value of the patch that the task applies are in ascending order, as those of
-- each value that is read
abbrev pub TaskHasSortedKeys : Task → Type 0
TaskHasSortedKeys (Get p fallback) = ⊤
TaskHasSortedKeys (Edit edit) = EditHasSortedKeys edit

-- `IsOfPlace task layout e`: `e` says that an edit is possible but not in place, or that a value is there but was not located
abbrev pub IsOfPlace : Task → Layout → TaskError → Type 0
IsOfPlace (Get p fallback) layout e = e ≡ NotLocated
IsOfPlace (Edit edit) layout e = (layout ≡ Kept) × (e ≡ NotInPlace)
