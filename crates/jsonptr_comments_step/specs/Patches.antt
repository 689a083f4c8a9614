-- A text with comments before a patch and after it.
use Rattle.std.specs.Prelude.{◌≡◌, List, [], ◌∷◌}
use Rattle.serde_json.specs.Data.{Data}
use Rattle.jsonptr.specs.Text.{Text}
use Rattle.jsonptr_text_resolve.specs.InText.{FindsInText}
use Rattle.jsonptr_patch.specs.declared.operation.Operation.{Operation}
use Rattle.jsonptr_patch.specs.declared.operation.Operation.TheVariants.{Add, Remove, Replace, Move, Copy, Test}
use Rattle.jsonptr_text_step.specs.Bytes.{DeletesBytes}
use Rattle.jsonptr_text_step.specs.PatchInText.{AddsAtBytes}
use Rattle.jsonptr_text_step.specs.RawPatching.{GivenBytes}
use Rattle.jsonptr_text_value.specs.declared.raw_operation.RawOperation.{RawOperation}
use Rattle.jsonptr_comments_step.specs.EditWithComments.{EditsAs}
use Rattle.jsonptr_comments_step.specs.Edits.{IsOneEdit}

-- `IsMadeInTwo text from path made`: the text `made` is `text` after an edit at `from` and one at `path`
abbrev pub IsMadeInTwo : Text → List Text → List Text → Text → Type 0
IsMadeInTwo text from path made = (left : Text) × IsOneEdit text from left × IsOneEdit left path made

-- `OperationEdits text o made`: the text `made` is `text` after the edit of the operation `o`. A test makes none, and a move two
abbrev pub OperationEdits : Text → Operation → Text → Type 0
OperationEdits text (Add path value) made = IsOneEdit text path made
OperationEdits text (Remove path) made = IsOneEdit text path made
OperationEdits text (Replace path value) made = IsOneEdit text path made
OperationEdits text (Move from path) made = IsMadeInTwo text from path made
OperationEdits text (Copy from path) made = IsOneEdit text path made
OperationEdits text (Test path value) made = made ≡ text

-- `PatchEdits text os made`: the text `made` is `text` after the edits of the operations `os`, each in the text that the one
-- before left
abbrev pub PatchEdits : Text → List Operation → Text → Type 0
PatchEdits text [] made = made ≡ text
PatchEdits text (o ∷ os) made = (next : Text) × OperationEdits text o next × PatchEdits next os made

-- ---- which bytes change

-- `EditsAt P text tokens made`: without comments, `made` has the tokens of what `P` says becomes of `text` without comments, and
-- it is `text` after one edit at `tokens`
abbrev pub EditsAt : (Text → Text → Type 0) → Text → List Text → Text → Type 0
EditsAt P text tokens made = EditsAs P text made × IsOneEdit text tokens made

-- `MovesAt text from path made`: the value `e` at `from` is cut out of the text, and then added at `path` to the text that is left
abbrev pub MovesAt : Text → List Text → List Text → Text → Type 0
MovesAt text from path made =
    (e : Data) × (left : Text)
    × EditsAt (λ old new. FindsInText old from e × DeletesBytes old from new) text from left
    × EditsAt (λ old new. AddsAtBytes old path e new) left path made

-- `OperatesAs P text o made`: the text `made` is `text` after the operation `o`, of which `P` says what becomes of the bytes of a
-- text without comments. A move is two edits, and a test is none
abbrev pub OperatesAs : (Text → Text → Type 0) → Text → Operation → Text → Type 0
OperatesAs P text (Add path value) made = EditsAt P text path made
OperatesAs P text (Remove path) made = EditsAt P text path made
OperatesAs P text (Replace path value) made = EditsAt P text path made
OperatesAs P text (Move from path) made = MovesAt text from path made
OperatesAs P text (Copy from path) made = EditsAt P text path made
OperatesAs P text (Test path value) made = made ≡ text

-- `CommentedPatchBytes text rs made`: which bytes the operations `rs` change, each in the text with comments that the one before
-- left. What an operation brings has the tokens of its own text
abbrev pub CommentedPatchBytes : Text → List RawOperation → Text → Type 0
CommentedPatchBytes text [] made = made ≡ text
CommentedPatchBytes text (r ∷ rs) made =
    (next : Text) × OperatesAs (λ old new. GivenBytes old r.operation r.raw new) text r.operation next
    × CommentedPatchBytes next rs made
