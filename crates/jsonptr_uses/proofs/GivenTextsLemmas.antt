-- A patch that is applied with the texts of its values.
use Rattle.std.proofs.Common.{◌≡◌, false, List, Option, Some, None, MatchOption, String, IfSome, All, string_bytes, subst}
use Rattle.std.specs.declared.alloc.Global.{Global}
use Rattle.jsonptr.specs.Text.{Text}
use Rattle.jsonptr_text_step.specs.PatchInText.{PatchesInText}
use Rattle.jsonptr_text_value.specs.Operations.{operations_in, IsGivenIn}
use Rattle.jsonptr_text_step.specs.RawPatching.{RawPatchBytes}
use Rattle.jsonptr_text_value.specs.declared.raw_operation.RawOperation.{RawOperation}
use Rattle.jsonptr_text_edit.specs.Edited.{text_of, is_in_place, IfInPlace}
use Rattle.jsonptr_text_edit.specs.declared.edited.Edited.{Edited}
use Rattle.jsonptr_text_edit.specs.declared.edited.Edited.TheVariants.{InPlace}

-- the new text of the operations `rs`, whose texts are given in `patch`
abbrev pub AsWritten : Text → Text → String Global → Type 0
AsWritten text patch s =
    (rs : List RawOperation) × All (IsGivenIn patch) rs
    × PatchesInText text (operations_in rs) (string_bytes s) × RawPatchBytes text rs (string_bytes s)

pub as_written : (e : Edited) (o : Option (String Global)) (text patch : Text) (rs : List RawOperation) → MatchOption o (is_in_place e ≡ false) (λ s. e ≡ InPlace s)
    → All (IsGivenIn patch) rs → PatchesInText text (operations_in rs) (text_of e) → IfInPlace (RawPatchBytes text rs) e → IfSome o (AsWritten text patch)
as_written e (Some s) text patch rs is given applied bytes =
    (rs, given, subst (λ (x : Edited). PatchesInText text (operations_in rs) (text_of x)) is applied, subst (IfInPlace (RawPatchBytes text rs)) is bytes)
as_written e None text patch rs is given applied bytes = tt
