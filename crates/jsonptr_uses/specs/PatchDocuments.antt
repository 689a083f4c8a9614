-- Why a patch document cannot be applied.
use Rattle.std.specs.Prelude.{List}
use Rattle.serde_json.specs.Data.{Data}
use Rattle.jsonptr.specs.Json.{nodes}
use Rattle.jsonptr_patch.specs.Patching.{RefusesPatch}
use Rattle.jsonptr_patch.specs.declared.operation.Operation.{Operation}
use Rattle.jsonptr_patch_document.specs.Document.{IsPatch, IsNoPatch}
use Rattle.jsonptr_uses.specs.declared.patch_documents.ApplyError.{ApplyError}
use Rattle.jsonptr_uses.specs.declared.patch_documents.ApplyError.TheVariants.{Document, Operation as OperationError}

-- `RefusesDocument d p e`: the patch document `p` cannot be applied to `d`, and `e` reports why
abbrev pub RefusesDocument : Data → Data → ApplyError → Type 0
RefusesDocument d p (Document e) = IsNoPatch p e
RefusesDocument d p (OperationError e) =
    (os : List Operation) × IsPatch p os × RefusesPatch (nodes d) os e
