-- What is printed anew, why a text is not printed anew, and why a patch is not read or applied. Used only by private
-- contracts.
use Rattle.std.specs.Prelude.{◌≡◌, ◌<◌, List, Some, None, ⊤, All}
use Rattle.serde_json.specs.Data.{Data, depth}
use Rattle.serde_json.specs.Read.{read, max_depth}
use Rattle.jsonptr.specs.Text.{Text}
use Rattle.jsonptr.specs.Node.{NodeMap}
use Rattle.jsonptr.specs.Json.{nodes, HasSortedKeys}
use Rattle.jsonptr_patch.specs.Order.{OperationHasSortedKeys}
use Rattle.jsonptr_patch.specs.Patching.{PatchesBy, FailsBy}
use Rattle.jsonptr_patch.specs.declared.comparison.Comparison.TheVariants.{Numeric}
use Rattle.jsonptr_patch.specs.declared.operation.Operation.{Operation}
use Rattle.jsonptr_patch_document.specs.Document.{IsNoPatch}
use Rattle.jsonptr_patch_document.specs.Writing.{document_of}
use Rattle.jsonptr_text_step.specs.OneLine.{StaysOneLine}
use Rattle.jsonptr_text_step.specs.PatchInText.{PatchesInText, IsPatchError}
use Rattle.jsonptr_text_step.specs.declared.stepped.StepError.TheVariants as edit
use Rattle.jptr_tasks.specs.Layouts.{Lays}
use Rattle.jptr_tasks.specs.declared.task_error.TaskError.{TaskError}
use Rattle.jptr_tasks.specs.declared.task_error.TaskError.TheVariants.{NotPatch, PatchFailed, TooDeep, NotInPlace, PatchTooDeep, NotJson, Memory}
use Rattle.jptr_tasks.specs.declared.layout.Layout.{Layout}
use Rattle.jptr_tasks.specs.declared.layout.Layout.TheVariants.{Kept}

-- `Remakes P layout out`: `out` is the document of a text that meets `P`, in this layout
abbrev pub Remakes : (Text → Type 0) → Layout → Text → Type 0
Remakes P layout out = (new : Text) × P new × Lays layout new out

-- `AppliesInLayout text os layout out`: `out` is the document of `text` after the operations `os`, in this layout. In the layout
-- `Kept` a text of one line stays one line
abbrev pub AppliesInLayout : Text → List Operation → Layout → Text → Type 0
AppliesInLayout text os layout out =
    (new : Text) × PatchesInText text os new × Lays layout new out × (layout ≡ Kept → StaysOneLine text new)

-- `IsAppliedTo text os e`: the operations `os` turn the document of `text` into `e`. If the keys of their values are sorted, those
-- of `e` are
abbrev pub IsAppliedTo : Text → List Operation → Data → Type 0
IsAppliedTo text os e =
    (d : Data) × (read text ≡ Some d) × PatchesBy Numeric (nodes d) os (nodes e)
    × (All OperationHasSortedKeys os → HasSortedKeys e)

-- `IsRelayoutFault text d e`: `e` is why the document `d` is not laid out as `text` is, unless an allocation failed
abbrev pub IsRelayoutFault : Text → Data → TaskError → Type 0
IsRelayoutFault text d NotJson = read text ≡ None
IsRelayoutFault text d TooDeep = max_depth < depth d
IsRelayoutFault text d (Memory f) = ⊤
IsRelayoutFault text d e = ⊥

-- `IsLayoutError text e`: `e` is why the document of `text` is not printed, unless an allocation failed
abbrev pub IsLayoutError : Text → TaskError → Type 0
IsLayoutError text NotJson = read text ≡ None
IsLayoutError text (Memory f) = ⊤
IsLayoutError text e = ⊥

-- `IsNotPatch patch e`: `e` is why the document `patch` is not read as a patch, unless an allocation failed
abbrev pub IsNotPatch : Data → TaskError → Type 0
IsNotPatch patch (NotPatch f) = IsNoPatch patch f
IsNotPatch patch (Memory f) = ⊤
IsNotPatch patch e = ⊥

-- `FailsToApply text os layout e`: `e` is why the operations `os` are not applied, unless an allocation failed. With
-- `NotInPlace` they apply, but not in place
abbrev pub FailsToApply : Text → List Operation → Layout → TaskError → Type 0
FailsToApply text os layout NotJson = read text ≡ None
FailsToApply text os layout (PatchFailed f) = (d : Data) × (read text ≡ Some d) × FailsBy Numeric (nodes d) os f
FailsToApply text os layout TooDeep = IsPatchError text os edit.TooDeep
FailsToApply text os layout NotInPlace = (layout ≡ Kept) × ((new : Text) × PatchesInText text os new)
FailsToApply text os layout (Memory f) = ⊤
FailsToApply text os layout e = ⊥

-- `IsPatchTextFault os e`: `e` is why the patch document of the operations `os` is not printed, unless an allocation
-- failed
abbrev pub IsPatchTextFault : List Operation → TaskError → Type 0
IsPatchTextFault os PatchTooDeep = max_depth < depth (document_of os)
IsPatchTextFault os (Memory f) = ⊤
IsPatchTextFault os e = ⊥

-- `IsApplyFault n os e`: `e` is why the operations `os` are not applied to `n`, unless an allocation failed
abbrev pub IsApplyFault : NodeMap → List Operation → TaskError → Type 0
IsApplyFault n os (PatchFailed f) = FailsBy Numeric n os f
IsApplyFault n os (Memory f) = ⊤
IsApplyFault n os e = ⊥
