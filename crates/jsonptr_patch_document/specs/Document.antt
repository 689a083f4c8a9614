-- When a JSON document is a patch, and why it is not (RFC 6902, section 3).
use Rattle.std.specs.Prelude.{◌≡◌, ◌≢◌, ℕ, suc, ◌⊎◌, List, [], ◌∷◌, ⊤}
use Rattle.serde_json.specs.Data.{Data, array, Items, no_items, item}
use Rattle.jsonptr_patch.specs.declared.operation.Operation.{Operation}
use Rattle.jsonptr_patch_document.specs.Object.{IsOperationObject, IsNoOperationObject}
use Rattle.jsonptr_patch_document.specs.declared.error.PatchDocumentError.{PatchDocumentError}
use Rattle.jsonptr_patch_document.specs.declared.error.PatchDocumentError.TheVariants.{NotArray}

-- `AreOperations ds os`: the elements `ds` are the operations `os`, in order
abbrev pub AreOperations : Items → List Operation → Type 0
AreOperations no_items [] = ⊤
AreOperations no_items (o ∷ os) = ⊥
AreOperations (item d ds) [] = ⊥
AreOperations (item d ds) (o ∷ os) = IsOperationObject d o × AreOperations ds os

-- `IsPatch d os`: the document `d` is an array, and its elements are the operations `os`
abbrev pub IsPatch : Data → List Operation → Type 0
IsPatch d os = (ds : Items) × (d ≡ array ds) × AreOperations ds os

-- `HasNoOperation ds k e`: among the elements `ds`, whose numbers start at `k`, is one that is not an operation. `e`
-- reports the first of these
abbrev pub HasNoOperation : Items → ℕ → PatchDocumentError → Type 0
HasNoOperation no_items k e = ⊥
HasNoOperation (item d ds) k e =
    IsNoOperationObject d k e
    ⊎ (((o : Operation) × IsOperationObject d o) × HasNoOperation ds (suc k) e)

-- `IsNoPatch d e`: the document `d` is not a patch, and `e` reports why
abbrev pub IsNoPatch : Data → PatchDocumentError → Type 0
IsNoPatch d e =
    (((ds : Items) → d ≢ array ds) × (e ≡ NotArray))
    ⊎ ((ds : Items) × (d ≡ array ds) × HasNoOperation ds 0 e)
