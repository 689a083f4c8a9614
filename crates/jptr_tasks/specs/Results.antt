-- The text that a task makes of the text of a document, and why it makes none.
use Rattle.std.specs.Prelude.{◌≡◌, ◌⊎◌, List, Option, Some, None, ⊤}
use Rattle.serde_json.specs.Data.{Data}
use Rattle.serde_json.specs.Read.{read}
use Rattle.serde_json.specs.View.{view}
use Rattle.serde_json.specs.declared.value.Value.{Value}
use Rattle.jsonptr.specs.Text.{Text}
use Rattle.jsonptr.specs.Json.{nodes}
use Rattle.jsonptr.specs.Pointer.{tokens}
use Rattle.jsonptr.specs.declared.resolve.Error.{Error}
use Rattle.jsonptr_patch.specs.Patching.{FailsBy}
use Rattle.jsonptr_patch.specs.declared.comparison.Comparison.TheVariants.{Numeric}
use Rattle.jsonptr_patch.specs.declared.operation.Operation.{Operation}
use Rattle.jsonptr_patch_document.specs.Document.{IsPatch, IsNoPatch}
use Rattle.jsonptr_text_resolve.specs.InText.{FindsInText, RefusesInText}
use Rattle.jsonptr_text_step.specs.OneLine.{StaysOneLine}
use Rattle.jsonptr_text_step.specs.Locating.{IsLocated}
use Rattle.jsonptr_text_step.specs.PatchInText.{PatchesInText, PatchBytes, IsPatchError}
use Rattle.jsonptr_text_step.specs.declared.stepped.StepError.TheVariants as edit
use Rattle.jsonptr_text_edit.specs.Edits.{EditsText, EditBytes}
use Rattle.jsonptr_text_edit.specs.Errors.{IsEditError}
use Rattle.jsonptr_text_edit.specs.declared.edit.Edit.{Edit}
use Rattle.jsonptr_text_edit.specs.declared.edit_error.EditError.TheVariants as error
use Rattle.jptr_tasks.specs.Layouts.{ShowsInLayout, Lays}
use Rattle.jptr_tasks.specs.declared.task_error.TaskError.{TaskError}
use Rattle.jptr_tasks.specs.declared.task_error.TaskError.TheVariants.{NotPatch, Resolve, Assign, NotThere, NotRenamed, PatchFailed, TooDeep, NotInPlace, NotLocated, NotJson, Memory}
use Rattle.jptr_tasks.specs.declared.layout.Layout.{Layout}
use Rattle.jptr_tasks.specs.declared.layout.Layout.TheVariants.{Kept}
use Rattle.jptr_tasks.specs.declared.task.Task.{Task}
use Rattle.jptr_tasks.specs.declared.task.Task.TheVariants as task

-- `Gets text ts fallback layout out`: `out` is the text of the value that the tokens identify in the document of `text`, in
-- this layout: as it is written there, or with its tokens laid out anew. If they identify none, it is what is printed for the
-- value in `fallback`
abbrev pub Gets : Text → List Text → Option Value → Layout → Text → Type 0
Gets text ts fallback layout out =
    ((before piece after : Text) × IsLocated text ts before piece after × Lays layout piece out)
    ⊎ ((other : Value) × (e : Error)
    × (fallback ≡ Some other) × RefusesInText text ts e × ShowsInLayout layout (view other) out)

-- `EditsInLayout text edit layout out`: `out` is the document of `text` after the edit, in this layout. In the layout `Kept` only
-- the bytes of the edit change, what it puts there has the tokens of the value's own text, and a text of one line stays one line
abbrev pub EditsInLayout : Text → Edit → Layout → Text → Type 0
EditsInLayout text edit layout out =
    (new : Text) × EditsText text edit new × Lays layout new out
    × (layout ≡ Kept → EditBytes text edit new × StaysOneLine text new)

-- `PatchesBytesInLayout text patch layout out`: `out` is the document of `text` after the operations that the document `patch` is,
-- in this layout. In the layout `Kept` only the bytes of the operations change, and a text of one line stays one line
abbrev pub PatchesBytesInLayout : Text → Data → Layout → Text → Type 0
PatchesBytesInLayout text patch layout out =
    (os : List Operation) × (new : Text)
    × IsPatch patch os × PatchesInText text os new × Lays layout new out
    × (layout ≡ Kept → PatchBytes text os new × StaysOneLine text new)

-- `PatchesInLayout text patch layout out`: `out` is the document of `text` after the operations that the document `patch` is,
-- in this layout. In the layout `Kept` a text of one line stays one line
abbrev pub PatchesInLayout : Text → Data → Layout → Text → Type 0
PatchesInLayout text patch layout out =
    (os : List Operation) × (new : Text)
    × IsPatch patch os × PatchesInText text os new × Lays layout new out × (layout ≡ Kept → StaysOneLine text new)

-- `Yields task layout text out`: `out` is the result of the task on `text`, in this layout
abbrev pub Yields : Task → Layout → Text → Text → Type 0
Yields (task.Get p fallback) layout text out = Gets text (tokens p) fallback layout out
Yields (task.Edit edit) layout text out = EditsInLayout text edit layout out

-- `FailsToGet text ts fallback e`: `e` is why no value is found, unless an allocation failed. With `NotLocated` the
-- value is there
abbrev pub FailsToGet : Text → List Text → Option Value → TaskError → Type 0
FailsToGet text ts fallback NotJson = read text ≡ None
FailsToGet text ts fallback (Resolve f) = (fallback ≡ None) × RefusesInText text ts f
FailsToGet text ts fallback NotLocated = (v : Data) × FindsInText text ts v
FailsToGet text ts fallback (Memory f) = ⊤
FailsToGet text ts fallback e = ⊥

-- `FailsToEdit text edit layout e`: `e` is why the edit is not made, unless an allocation failed. With `NotInPlace` it is
-- possible, but not in place
abbrev pub FailsToEdit : Text → Edit → Layout → TaskError → Type 0
FailsToEdit text edit layout NotJson = IsEditError text edit error.NotJson
FailsToEdit text edit layout (Assign f) = IsEditError text edit (error.Assign f)
FailsToEdit text edit layout NotThere = IsEditError text edit error.NotThere
FailsToEdit text edit layout (NotRenamed f) = IsEditError text edit (error.Rename f)
FailsToEdit text edit layout (PatchFailed f) = IsEditError text edit (error.Patch f)
FailsToEdit text edit layout TooDeep = IsEditError text edit error.TooDeep
FailsToEdit text edit layout NotInPlace = (layout ≡ Kept) × ((new : Text) × EditsText text edit new)
FailsToEdit text edit layout (Memory f) = ⊤
FailsToEdit text edit layout e = ⊥

-- `FailsToPatch text patch layout e`: `e` is why the patch is not applied, unless an allocation failed. The document
-- `patch` is read first. With `NotInPlace` the operations apply, but not in place
abbrev pub FailsToPatch : Text → Data → Layout → TaskError → Type 0
FailsToPatch text patch layout (NotPatch f) = IsNoPatch patch f
FailsToPatch text patch layout NotJson = ((os : List Operation) × IsPatch patch os) × (read text ≡ None)
FailsToPatch text patch layout (PatchFailed f) =
    (os : List Operation) × (d : Data)
    × IsPatch patch os × (read text ≡ Some d) × FailsBy Numeric (nodes d) os f
FailsToPatch text patch layout TooDeep =
    (os : List Operation) × IsPatch patch os × IsPatchError text os edit.TooDeep
FailsToPatch text patch layout NotInPlace =
    (layout ≡ Kept) × ((os : List Operation) × (new : Text) × IsPatch patch os × PatchesInText text os new)
FailsToPatch text patch layout (Memory f) = ⊤
FailsToPatch text patch layout e = ⊥

-- `Fails task layout text e`: `e` is why the task has no result on `text`, unless an allocation failed
abbrev pub Fails : Task → Layout → Text → TaskError → Type 0
Fails (task.Get p fallback) layout text e = FailsToGet text (tokens p) fallback e
Fails (task.Edit edit) layout text e = FailsToEdit text edit layout e
