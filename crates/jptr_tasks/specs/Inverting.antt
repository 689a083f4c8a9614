-- The patch that takes a patch back.
use Rattle.std.specs.Prelude.{◌≡◌, ◌<◌, List, Some, None, ⊤, string_bytes, All}
use Rattle.serde_json.specs.Data.{Data, depth}
use Rattle.serde_json.specs.Read.{read, max_depth}
use Rattle.jsonptr.specs.Text.{Text}
use Rattle.jsonptr.specs.Json.{nodes, HasSortedKeys}
use Rattle.jsonptr.specs.Node.{NodeMap}
use Rattle.jsonptr_patch.specs.Inverse.{TakesAllBackBy}
use Rattle.jsonptr_patch.specs.Order.{OperationHasSortedKeys}
use Rattle.jsonptr_patch.specs.Patching.{PatchesBy, FailsBy}
use Rattle.jsonptr_patch.specs.declared.comparison.Comparison.TheVariants.{Numeric}
use Rattle.jsonptr_patch.specs.declared.operation.Operation.{Operation}
use Rattle.jsonptr_patch_document.specs.Document.{IsPatch, IsNoPatch}
use Rattle.jsonptr_patch_document.specs.Writing.{document_of}
use Rattle.jptr_tasks.specs.Differences.{IsDifference}
use Rattle.jptr_tasks.specs.declared.difference.PrintedPatch.{PrintedPatch}
use Rattle.jptr_tasks.specs.declared.task_error.TaskError.{TaskError}
use Rattle.jptr_tasks.specs.declared.task_error.TaskError.TheVariants.{NotPatch, PatchFailed, PatchTooDeep, NotJson, Memory}
use Rattle.jptr_tasks.specs.declared.layout.Layout.{Layout}

-- `IsInverse text patch layout u`: `u` turns the document of `text` after the operations that the document `patch` is into
-- the document of `text`
abbrev pub IsInverse : Text → Data → Layout → PrintedPatch → Type 0
IsInverse text patch layout u =
    (d : Data) × (os : List Operation) × (m : NodeMap)
    × (read text ≡ Some d) × IsPatch patch os × PatchesBy Numeric (nodes d) os m
    × IsDifference m (nodes d) layout u

-- `TakesPatchBack text patch u`: the text of `u` is read as the patch document of the operations that take those of `patch`
-- back on the document of `text`
abbrev pub TakesPatchBack : Text → Data → PrintedPatch → Type 0
TakesPatchBack text patch u =
    (d : Data) × (os back : List Operation)
    × (read text ≡ Some d) × IsPatch patch os × TakesAllBackBy Numeric (nodes d) os back
    × (read (string_bytes u.text) ≡ Some (document_of back))

-- `HasDeepInverse text patch`: the patch document of the operations that take those of `patch` back on the document of `text`
-- nests deeper than 127. The keys of its values are sorted if those of `patch` are
abbrev pub HasDeepInverse : Text → Data → Type 0
HasDeepInverse text patch =
    (d : Data) × (os back : List Operation)
    × (read text ≡ Some d) × IsPatch patch os × TakesAllBackBy Numeric (nodes d) os back
    × (HasSortedKeys patch → All OperationHasSortedKeys back)
    × (max_depth < depth (document_of back))

-- `FailsToInvert text patch e`: `e` is why no patch is printed that takes `patch` back, unless an allocation failed.
-- The document `patch` is read first
abbrev pub FailsToInvert : Text → Data → TaskError → Type 0
FailsToInvert text patch (NotPatch f) = IsNoPatch patch f
FailsToInvert text patch NotJson = ((os : List Operation) × IsPatch patch os) × (read text ≡ None)
FailsToInvert text patch (PatchFailed f) =
    (os : List Operation) × (d : Data)
    × IsPatch patch os × (read text ≡ Some d) × FailsBy Numeric (nodes d) os f
FailsToInvert text patch PatchTooDeep = HasDeepInverse text patch
FailsToInvert text patch (Memory f) = ⊤
FailsToInvert text patch e = ⊥
