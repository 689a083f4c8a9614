-- JSON Patch documents as bytes.
use Rattle.std.specs.Prelude.{◌≡◌, ◌⊎◌, ℕ, ◌<◌, All, IsUtf8, List, Some, length}
use Rattle.serde_json.specs.Data.{Data, depth}
use Rattle.serde_json.specs.Read.{max_depth, read}
use Rattle.serde_json.specs.View.{view}
use Rattle.jsonptr.specs.Json.{nodes, HasSortedKeys}
use Rattle.jsonptr.specs.Node.{NodeMap}
use Rattle.jsonptr_patch.specs.Inverse.{TakesAllBackBy}
use Rattle.jsonptr_patch.specs.Order.{OperationHasSortedKeys}
use Rattle.jsonptr_patch.specs.Patching.{Patches, PatchesBy, FailsBy}
use Rattle.jsonptr_patch.specs.declared.failed_operation.FailedOperation.{FailedOperation}
use Rattle.jsonptr_patch.specs.declared.operation.Operation.{Operation}
use Rattle.jsonptr_patch.specs.declared.comparison.Comparison.TheVariants.{Numeric}
use Rattle.jsonptr_patch_document.specs.Document.{IsPatch, IsNoPatch}
use Rattle.jsonptr_patch_document.specs.Writing.{document_of}
use Rattle.jsonptr_patch_document.specs.declared.error.PatchDocumentError.{PatchDocumentError}
use Rattle.jsonptr_c_calls.specs.declared.handle.Handle.{Handle}
use Rattle.jsonptr_patch_diff.specs.Diff.{IsChange, StepsTo}
use Rattle.jsonptr_c_calls.specs.Depths.{StaysShallow}
use Rattle.jsonptr_c_calls.specs.Failures.{FailsOnHandle, IsNotParsed, IsOutOfMemory, LacksRoom}
use Rattle.jsonptr_c_calls.specs.Values.{IsJsonText}
use Rattle.jsonptr_text_resolve.specs.declared.format.Format.{Format}
use Rattle.jsonptr_c_calls.specs.declared.call_error.CallError.{CallError}
use Rattle.jsonptr_c_calls.specs.declared.call_error.CallError.TheVariants.{NotPatch, PatchFailed, TooDeep, InverseTooDeep}

-- `IsPatchText text os`: `text` is a patch document with the operations `os`
abbrev pub IsPatchText : List ℕ → List Operation → Type 0
IsPatchText text os = (d : Data) × (read text ≡ Some d) × IsPatch d os

-- `IsNotPatchText text e`: `text` is not a patch document, or an allocation failed, and `e` reports why
abbrev pub IsNotPatchText : List ℕ → CallError → Type 0
IsNotPatchText text e =
    IsNotParsed text e
    ⊎ ((d : Data) × (error : PatchDocumentError) × IsUtf8 text × (read text ≡ Some d) × IsNoPatch d error
    × (e ≡ NotPatch error))

-- `AppliesText text d n`: the operations of the patch document `text` turn the document `d` into `n`, and cannot nest it
-- too deep
abbrev pub AppliesText : List ℕ → Data → Data → Type 0
AppliesText text d n = (os : List Operation) × IsPatchText text os × StaysShallow d os × PatchesBy Numeric (nodes d) os (nodes n)

-- `FailsList n os e`: one of the operations `os` fails on `n`, and `e` reports why, and which of its pointers is at fault
abbrev pub FailsList : NodeMap → List Operation → CallError → Type 0
FailsList n os e = (f : FailedOperation) × FailsBy Numeric n os f × (e ≡ PatchFailed f)

-- `IsNotAppliedList d os e`: the operations `os` can nest the document `d` too deep, or one of them fails on it, or an
-- allocation failed, and `e` reports why
abbrev pub IsNotAppliedList : Data → List Operation → CallError → Type 0
IsNotAppliedList d os e =
    ((StaysShallow d os → ⊥) × (e ≡ TooDeep))
    ⊎ (IsOutOfMemory e ⊎ (StaysShallow d os × FailsList (nodes d) os e))

-- `IsNotApplied text d e`: the operations of the patch document `text` are not applied to the document in the handle `d`,
-- and `e` reports why
abbrev pub IsNotApplied : List ℕ → Handle → CallError → Type 0
IsNotApplied text d e = (os : List Operation) × IsUtf8 text × IsPatchText text os
    × FailsOnHandle d (λ v. IsNotAppliedList (view v) os e) e

-- `IsDiffText format d n text`: `text` is that of a patch document whose operations turn the document `d` into `n`, in
-- this format. Each is a change of `d` into `n`, and a step to `n`
abbrev pub IsDiffText : Format → Data → Data → List ℕ → Type 0
IsDiffText format d n text =
    (os : List Operation) × Patches (nodes d) os (nodes n) × All (IsChange (nodes d) (nodes n)) os
    × StepsTo (nodes n) (nodes d) os (nodes n) × IsJsonText format (document_of os) text

-- `IsNotCompared format d n room e`: the text of such a patch document does not come to `room` bytes, and `e` reports why
abbrev pub IsNotCompared : Format → Data → Data → ℕ → CallError → Type 0
IsNotCompared format d n room e =
    IsOutOfMemory e ⊎ ((text : List ℕ) × IsDiffText format d n text × LacksRoom (length text) room e)

-- `IsInverseText format d os n text`: `text` is that of the document of operations that take back the operations `os` on the
-- document `d`, in this format. It reads as that document, and they turn the document `n` back into `d`
abbrev pub IsInverseText : Format → Data → List Operation → Data → List ℕ → Type 0
IsInverseText format d os n text =
    (inverse : List Operation) × IsPatchText text inverse × Patches (nodes n) inverse (nodes d)
    × TakesAllBackBy Numeric (nodes d) os inverse
    × IsJsonText format (document_of inverse) text × (read text ≡ Some (document_of inverse))

-- `AppliesWithInverse format text d n out`: the operations of the patch document `text` turn the document `d` into `n`, and
-- `out` is the text of a patch document that takes them back
abbrev pub AppliesWithInverse : Format → List ℕ → Data → Data → List ℕ → Type 0
AppliesWithInverse format text d n out =
    AppliesText text d n × ((os : List Operation) × IsPatchText text os × IsInverseText format d os n out)

-- `LacksInverse d os e`: the document of operations that take back the operations `os` on the document `d` nests so deep that
-- its text would not be read, and `e` reports that. Their values have sorted keys if `d` and those of `os` have
abbrev pub LacksInverse : Data → List Operation → CallError → Type 0
LacksInverse d os e =
    (inverse : List Operation) × TakesAllBackBy Numeric (nodes d) os inverse
    × (All OperationHasSortedKeys os → HasSortedKeys d → All OperationHasSortedKeys inverse)
    × (max_depth < depth (document_of inverse)) × (e ≡ InverseTooDeep)

-- `IsNotPatched d os e`: the operations `os` are not applied to the document `d`, or what takes them back would not be
-- read, and `e` reports why
abbrev pub IsNotPatched : Data → List Operation → CallError → Type 0
IsNotPatched d os e =
    IsNotAppliedList d os e
    ⊎ ((n : Data) × StaysShallow d os × PatchesBy Numeric (nodes d) os (nodes n) × LacksInverse d os e)

-- `IsNotAppliedListWithInverse format d os room e`: those operations are not applied, or the text of what takes them back
-- does not come to `room` bytes, and `e` reports why
abbrev pub IsNotAppliedListWithInverse : Format → Data → List Operation → ℕ → CallError → Type 0
IsNotAppliedListWithInverse format d os room e =
    IsNotPatched d os e
    ⊎ ((n : Data) × (out : List ℕ) × StaysShallow d os × PatchesBy Numeric (nodes d) os (nodes n)
    × IsInverseText format d os n out × LacksRoom (length out) room e)

-- `IsNotAppliedWithInverse format text d room e`: the same of the document in the handle `d`
abbrev pub IsNotAppliedWithInverse : Format → List ℕ → Handle → ℕ → CallError → Type 0
IsNotAppliedWithInverse format text d room e = (os : List Operation) × IsUtf8 text × IsPatchText text os
    × FailsOnHandle d (λ v. IsNotAppliedListWithInverse format (view v) os room e) e
