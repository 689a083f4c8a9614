-- Why a patch is not read.
use Rattle.std.specs.Prelude.{List, ⊤}
use Rattle.serde_json.specs.Data.{Data}
use Rattle.jsonptr_patch.specs.declared.operation.Operation.{Operation}
use Rattle.jsonptr_patch_document.specs.Document.{IsPatch, IsNoPatch}
use Rattle.jsonptr_text_value.specs.declared.patch_text_error.PatchTextError.{PatchTextError}
use Rattle.jsonptr_text_value.specs.declared.patch_text_error.PatchTextError.TheVariants.{NotPatch, NotLocated, TooDeep, Memory}

-- `FailsToReadOperations patch e`: `e` is why the document `patch` is not read as a patch, unless an allocation failed
abbrev pub FailsToReadOperations : Data → PatchTextError → Type 0
FailsToReadOperations patch (NotPatch f) = IsNoPatch patch f
FailsToReadOperations patch NotLocated = ⊥
FailsToReadOperations patch TooDeep = ⊥
FailsToReadOperations patch (Memory f) = ⊤

-- `FailsToReadPatch patch e`: `e` is why the patch of the document `patch` is not read with the texts of its values,
-- unless an allocation failed. With `NotLocated` the document is a patch
abbrev pub FailsToReadPatch : Data → PatchTextError → Type 0
FailsToReadPatch patch (NotPatch f) = IsNoPatch patch f
FailsToReadPatch patch NotLocated = (os : List Operation) × IsPatch patch os
FailsToReadPatch patch TooDeep = ⊥
FailsToReadPatch patch (Memory f) = ⊤
