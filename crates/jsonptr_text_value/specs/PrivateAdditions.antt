-- Words of private clauses: a patch of one operation.
use Rattle.std.specs.Prelude.{◌≡◌, [], ◌∷◌, Some}
use Rattle.jsonptr_patch.specs.declared.operation.Operation.{Operation}
use Rattle.jsonptr_text_value.specs.declared.patch_text.PatchText.{PatchText}
use Rattle.jsonptr_text_value.specs.declared.raw_operation.RawOperation.{RawOperation}
use Rattle.jsonptr_text_value.specs.declared.raw_value.RawValue.{RawValue}

-- `IsAlone o raw p`: `o` is the one operation of `p`, with the text `raw` of its value
abbrev pub IsAlone : Operation → RawValue → PatchText → Type 0
IsAlone o raw p = (r : RawOperation) × (p.operations.items ≡ r ∷ []) × (r.operation ≡ o) × (r.raw ≡ Some raw)
