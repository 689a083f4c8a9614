use Rattle.std.proofs.Common.{◌≡◌, Some, take, string_bytes}
use Rattle.serde_json.specs.Data.{Data}
use Rattle.serde_json.specs.Read.{read}
use Rattle.jsonptr_text_step.specs.PatchInText.{PatchesInText}
use Rattle.jsonptr_text_value.specs.Operations.{operations_in}
use Rattle.jsonptr_text_step.specs.RawPatching.{RawPatchBytes}
use Rattle.jsonptr_text_step.proofs.apply.apply_rest.Given as goal

abbrev pub invariant-operations : goal.invariant-operations
invariant-operations l =
    ((d : Data) → read (string_bytes l.fn.text) ≡ Some d → PatchesInText (string_bytes l.fn.text) (operations_in (take l.operation-index l.operations)) (string_bytes l.current))
    × RawPatchBytes (string_bytes l.fn.text) (take l.operation-index l.operations) (string_bytes l.current)
