-- What is known of a text with comments after a patch.
use Rattle.std.proofs.Common.{List, [], ◌∷◌, ◌++◌, refl, sym, subst}
use Rattle.jsonptr.specs.Text.{Text}
use Rattle.jsonptr_comments.specs.Comments.{IsWithoutComments}
use Rattle.jsonptr_patch.specs.declared.operation.Operation.{Operation}
use Rattle.jsonptr_patch.specs.declared.operation.Operation.TheVariants.{Add, Remove, Replace, Move, Copy, Test}
use Rattle.jsonptr_text_value.specs.Operations.{operations_in}
use Rattle.jsonptr_text_value.specs.declared.raw_operation.RawOperation.{RawOperation}
use Rattle.jsonptr_text_value.proofs.ListLemmas.{operations_push}
use Rattle.jsonptr_text_step.specs.PatchInText.{PatchesInText}
use Rattle.jsonptr_text_step.specs.RawPatching.{GivenBytes}
use Rattle.jsonptr_text_step.proofs.OperatingLemmas.{patches_first, patches_more}
use Rattle.jsonptr_comments_step.specs.EditWithComments.{Becomes}
use Rattle.jsonptr_comments_step.specs.Patches.{OperationEdits, PatchEdits, OperatesAs, CommentedPatchBytes}
use Rattle.jsonptr_comments_step.specs.PrivateStepping.{IsOperated, IsPatched}

-- ---- all operations

-- an operation before others
pub patched_first : (text bare mid rest made json : Text) (r : RawOperation) (rs : List RawOperation) → IsOperated text bare r.operation r.raw mid rest → IsPatched mid rest rs made json → IsPatched text bare (r ∷ rs) made json
patched_first text bare mid rest made json r rs h k = record {
  without = k.without;
  means = patches_first bare rest json r.operation (operations_in rs) h.means k.means;
  bytes = (mid, h.bytes, k.bytes);
}

bytes_push : (text mid made : Text) (rs : List RawOperation) (r : RawOperation) → CommentedPatchBytes text rs mid → OperatesAs (λ old new. GivenBytes old r.operation r.raw new) mid r.operation made → CommentedPatchBytes text (rs ++ r ∷ []) made
bytes_push text mid made [] r h last = (made, subst (λ (t : Text). OperatesAs (λ old new. GivenBytes old r.operation r.raw new) t r.operation made) h last, refl)
bytes_push text mid made (q ∷ rs) r h last = (h.0, h.1, bytes_push h.0 mid made rs r h.2 last)

-- an operation more
pub patched_more : (text bare mid rest made json : Text) (rs : List RawOperation) (r : RawOperation) → IsPatched text bare rs mid rest → IsOperated mid rest r.operation r.raw made json → IsPatched text bare (rs ++ r ∷ []) made json
patched_more text bare mid rest made json rs r h last = record {
  without = last.without;
  means = subst (λ (os : List Operation). PatchesInText bare os json) (sym (operations_push rs r)) (patches_more bare rest json (operations_in rs) r.operation h.means last.means);
  bytes = bytes_push text mid made rs r h.bytes last.bytes;
}

-- ---- what it promises

pub patched : (text bare made json : Text) (rs : List RawOperation) → IsWithoutComments text bare → IsPatched text bare rs made json → Becomes (λ old new. PatchesInText old (operations_in rs) new) text made
patched text bare made json rs was h = (bare, json, was, h.without, h.means)

-- the pieces that change, the bytes left aside
operation_pieces : (P : Text → Text → Type 0) (text : Text) (o : Operation) (made : Text) → OperatesAs P text o made → OperationEdits text o made
operation_pieces P text (Add path value) made h = h.1
operation_pieces P text (Remove path) made h = h.1
operation_pieces P text (Replace path value) made h = h.1
operation_pieces P text (Move from path) made h = (h.1, h.2.1, h.3.1)
operation_pieces P text (Copy from path) made h = h.1
operation_pieces P text (Test path value) made h = h

pub patch_pieces : (text made : Text) (rs : List RawOperation) → CommentedPatchBytes text rs made → PatchEdits text (operations_in rs) made
patch_pieces text made [] h = h
patch_pieces text made (r ∷ rs) h = (h.0, operation_pieces (λ old new. GivenBytes old r.operation r.raw new) text r.operation h.0 h.1, patch_pieces h.0 made rs h.2)
