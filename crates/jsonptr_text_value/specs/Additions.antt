-- The patch that adds a value.
use Rattle.std.specs.Prelude.{◌≡◌, ◌<◌, ◌+◌, List, [], ◌∷◌, Some, ⊤}
use Rattle.serde_json.specs.Data.{depth}
use Rattle.serde_json.specs.Read.{max_depth}
use Rattle.serde_json.specs.View.{view}
use Rattle.serde_json.specs.declared.value.Value.{Value}
use Rattle.jsonptr.specs.Text.{Text}
use Rattle.jsonptr_patch.specs.declared.operation.Operation.TheVariants.{Add}
use Rattle.jsonptr_text_value.specs.Raw.{value_of_raw}
use Rattle.jsonptr_text_value.specs.declared.raw_operation.RawOperation.{RawOperation}
use Rattle.jsonptr_text_value.specs.declared.raw_value.RawValue.{RawValue}
use Rattle.jsonptr_text_value.specs.declared.patch_text.PatchText.{PatchText}
use Rattle.jsonptr_text_value.specs.declared.patch_text_error.PatchTextError.{PatchTextError}
use Rattle.jsonptr_text_value.specs.declared.patch_text_error.PatchTextError.TheVariants.{NotPatch, NotLocated, TooDeep, Memory}

-- `IsAddition ts raw p`: the one operation of `p` adds the value `raw` at the tokens, with its own text
abbrev pub IsAddition : List Text → RawValue → PatchText → Type 0
IsAddition ts raw p =
    (r : RawOperation) × (value : Value)
    × (p.operations.items ≡ r ∷ []) × (r.operation ≡ Add ts value) × (view value ≡ value_of_raw raw)
    × (r.raw ≡ Some raw)

-- `FailsToAdd raw e`: `e` is why there is no patch that adds the value `raw`, unless an allocation failed. The value is two
-- levels deeper in the patch document
abbrev pub FailsToAdd : RawValue → PatchTextError → Type 0
FailsToAdd raw (NotPatch f) = ⊥
FailsToAdd raw NotLocated = ⊤
FailsToAdd raw TooDeep = max_depth < depth (value_of_raw raw) + 2
FailsToAdd raw (Memory f) = ⊤
