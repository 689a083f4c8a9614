use Rattle.std.proofs.Common.{◌≡◌, List, ◌∷◌, [], Result, Ok, Err, IfOk, IfErr, string_bytes, sym, subst}
use Rattle.jsonptr_patch.specs.declared.operation.Operation.{Operation}
use Rattle.jsonptr_patch.specs.declared.operation.Operation.TheVariants.{Move}
use Rattle.jsonptr_text_step.specs.PatchInText.{PatchesInText, PatchBytes, MovesBytes}
use Rattle.jsonptr_text_step.specs.RawPatching.{RawPatchBytes}
use Rattle.jsonptr_text_step.proofs.RawLemmas.{patch_bytes}
use Rattle.jsonptr_text_value.specs.Operations.{operations_in}
use Rattle.jsonptr_text_value.specs.declared.raw_operation.RawOperation.{RawOperation}
use Rattle.jsonptr_text_edit.specs.Edited.{text_of, IfInPlace}
use Rattle.jsonptr_text_edit.specs.Errors.{FailsToPatch}
use Rattle.jsonptr_text_edit.specs.declared.edited.Edited.{Edited}
use Rattle.jsonptr_text_edit.specs.declared.edited.Edited.TheVariants.{InPlace, Reprinted}
use Rattle.jsonptr_uses.proofs.edits_in_place.moved.Goals as goal

-- the bytes of a patch of one move are those of the move
one_move : {E : Type 0} (text from path : _) (rs : List RawOperation) (r : Result Edited E)
    → operations_in rs ≡ Move from path ∷ [] → IfOk r (IfInPlace (RawPatchBytes text rs)) → IfOk r (IfInPlace (MovesBytes text from path))
one_move text from path rs (Ok (InPlace s)) is h =
    let g = subst (λ (os : List Operation). PatchBytes text os (string_bytes s)) is (patch_bytes text (string_bytes s) rs h) in
    subst (MovesBytes text from path) (sym g.2) g.1
one_move text from path rs (Ok (Reprinted s)) is h = tt
one_move text from path rs (Err e) is h = tt

pub returns-clause-moved : goal.returns-clause-moved
returns-clause-moved c =
    subst (λ (os : List Operation). IfOk c.edit_text.result (λ e. PatchesInText c.args.text.now os (text_of e))) c.in_ok-patch.ensures
    c.edit_text.ensures.edited

pub returns-clause-bytes : goal.returns-clause-bytes
returns-clause-bytes c =
    one_move c.args.text.now c.args.from c.args.path c.in_ok-patch.patch.operations.items c.edit_text.result c.in_ok-patch.ensures c.edit_text.ensures.bytes

pub returns-clause-refused : goal.returns-clause-refused
returns-clause-refused c =
    subst (λ (os : List Operation). IfErr c.edit_text.result (FailsToPatch c.args.text.now os)) c.in_ok-patch.ensures c.edit_text.ensures.refused
