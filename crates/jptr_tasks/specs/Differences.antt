-- The difference of two documents.
use Rattle.std.specs.Prelude.{◌≡◌, ◌↔◌, ◌+◌, ◌<◌, List, [], true, Some, ⊤, string_bytes, All}
use Rattle.serde_json.specs.Data.{Data, depth}
use Rattle.serde_json.specs.Read.{read, max_depth}
use Rattle.jsonptr.specs.Node.{NodeMap}
use Rattle.jsonptr_patch.specs.Patching.{Patches}
use Rattle.jsonptr_patch.specs.declared.operation.Operation.{Operation}
use Rattle.jsonptr_patch_diff.specs.Diff.{IsChange, StepsTo}
use Rattle.jsonptr_patch_document.specs.Writing.{document_of}
use Rattle.jptr_tasks.specs.Layouts.{ShowsInLayout}
use Rattle.jptr_tasks.specs.declared.difference.PrintedPatch.{PrintedPatch}
use Rattle.jptr_tasks.specs.declared.task_error.TaskError.{TaskError}
use Rattle.jptr_tasks.specs.declared.task_error.TaskError.TheVariants.{PatchTooDeep, Memory}
use Rattle.jptr_tasks.specs.declared.layout.Layout.{Layout}

-- `IsDifference n m layout d`: the text of `d` is the patch document of operations that turn `n` into `m`, and is read as it.
-- `is_empty` says whether there are none
abbrev pub IsDifference : NodeMap → NodeMap → Layout → PrintedPatch → Type 0
IsDifference n m layout d =
    (os : List Operation)
    × Patches n os m
    × ShowsInLayout layout (document_of os) (string_bytes d.text)
    × (read (string_bytes d.text) ≡ Some (document_of os))
    × ((d.is_empty ≡ true) ↔ (os ≡ []))

-- `HasChanges n m d`: the text of `d` is read as the patch document of operations that are changes of `n` into `m`, and each a step
-- to `m`
abbrev pub HasChanges : NodeMap → NodeMap → PrintedPatch → Type 0
HasChanges n m d =
    (os : List Operation) × (read (string_bytes d.text) ≡ Some (document_of os)) × All (IsChange n m) os
    × StepsTo m n os m

-- `FailsToDiffer new e`: `e` is why no patch document of operations that make the document `new` is printed, unless an
-- allocation failed. A value is two levels deeper in the patch document
abbrev pub FailsToDiffer : Data → TaskError → Type 0
FailsToDiffer new PatchTooDeep = max_depth < depth new + 2
FailsToDiffer new (Memory f) = ⊤
FailsToDiffer new e = ⊥

-- `IsNoneIfSame n m d`: if `n` and `m` are the same, `d` has no operation
abbrev pub IsNoneIfSame : NodeMap → NodeMap → PrintedPatch → Type 0
IsNoneIfSame n m d = n ≡ m → d.is_empty ≡ true
