-- Patches of a document in its text (RFC 6902).
use Rattle.std.specs.Prelude.{◌≡◌, ◌⊎◌, List, [], ◌∷◌, ◌++◌, All, Some, None, ⊤}
use mathlib.Core.Logic.{inl, inr}
use Rattle.serde_json.specs.Data.{Data}
use Rattle.serde_json.specs.Read.{read}
use Rattle.serde_json.specs.View.{view}
use Rattle.jsonptr.specs.Text.{Text}
use Rattle.jsonptr.specs.Node.{NodeMap}
use Rattle.jsonptr.specs.Json.{nodes}
use Rattle.jsonptr_text_resolve.specs.InText.{FindsInText}
use Rattle.jsonptr_patch.specs.Order.{OperationHasSortedKeys}
use Rattle.jsonptr_patch.specs.Patching.{PatchesBy, FailsBy}
use Rattle.jsonptr_patch.specs.declared.operation.Operation.{Operation}
use Rattle.jsonptr_patch.specs.declared.operation.Operation.TheVariants.{Add, Remove, Replace, Move, Copy, Test}
use Rattle.jsonptr_patch.specs.declared.comparison.Comparison.TheVariants.{Numeric}
use Rattle.jsonptr_patch.specs.declared.failed_operation.FailedOperation.{FailedOperation}
use Rattle.jsonptr_text_step.specs.Bytes.{ReplacesBytes, AddsBytes, child_text, DeletesBytes}
use Rattle.jsonptr_text_step.specs.EditInText.{IsTooDeep}
use Rattle.jsonptr_text_step.specs.declared.stepped.StepError.{StepError}
use Rattle.jsonptr_text_step.specs.declared.stepped.StepError.TheVariants.{NotJson, Refused, TooDeep, Memory}

-- `PatchesInText old os new`: the texts read as documents, and the operations `os` turn the first into the second. Tests
-- compare numbers by their values
abbrev pub PatchesInText : Text → List Operation → Text → Type 0
PatchesInText old os new =
    (d d2 : Data) × (read old ≡ Some d) × (read new ≡ Some d2) × PatchesBy Numeric (nodes d) os (nodes d2)

-- `AddsAtBytes old tokens e new`: the text of the value that `tokens` identify is replaced by a text of `e`, or one child with
-- the value `e` is added, which the last token refers to
abbrev pub AddsAtBytes : Text → List Text → Data → Text → Type 0
AddsAtBytes old tokens e new =
    ReplacesBytes old new tokens e
    ⊎ ((front : List Text) × (x : Text) × (tokens ≡ front ++ x ∷ []) × AddsBytes old new front x e)

-- `added_text old tokens e new b`: the text of the value that is put into the text `old`
abbrev pub added_text : (old : Text) (tokens : List Text) (e : Data) (new : Text) → AddsAtBytes old tokens e new → Text
added_text old tokens e new (inl b) = b.piece
added_text old tokens e new (inr b) = child_text old new b.0 b.1 e b.3

-- `MovesBytes old from path new`: the value at `from` is cut out, and then added at `path`
abbrev pub MovesBytes : Text → List Text → List Text → Text → Type 0
MovesBytes old from path new =
    (e : Data) × FindsInText old from e × ((mid : Text) × DeletesBytes old from mid × AddsAtBytes mid path e new)

-- `CopiesBytes old from path new`: the value at `from` is added at `path`
abbrev pub CopiesBytes : Text → List Text → List Text → Text → Type 0
CopiesBytes old from path new = (e : Data) × FindsInText old from e × AddsAtBytes old path e new

-- `OperationBytes old o new`: which bytes of the text `old` the operation `o` changes. A move cuts a child out, and then adds
-- one
abbrev pub OperationBytes : Text → Operation → Text → Type 0
OperationBytes old (Add path value) new = AddsAtBytes old path (view value) new
OperationBytes old (Remove path) new = DeletesBytes old path new
OperationBytes old (Replace path value) new = ReplacesBytes old new path (view value)
OperationBytes old (Move from path) new = MovesBytes old from path new
OperationBytes old (Copy from path) new = CopiesBytes old from path new
OperationBytes old (Test path value) new = new ≡ old

-- `PatchBytes old os new`: which bytes the operations `os` change, each in the text that the one before left
abbrev pub PatchBytes : Text → List Operation → Text → Type 0
PatchBytes old [] new = new ≡ old
PatchBytes old (o ∷ os) new = (mid : Text) × OperationBytes old o mid × PatchBytes mid os new

-- `IsPatchError text os e`: `e` is why applying the operations `os` in the text fails, unless an allocation failed.
-- `TooDeep` says that the new document is too deep, if the keys of their values are sorted
abbrev pub IsPatchError : Text → List Operation → StepError FailedOperation → Type 0
IsPatchError text os NotJson = read text ≡ None
IsPatchError text os (Refused f) = (d : Data) × (read text ≡ Some d) × FailsBy Numeric (nodes d) os f
IsPatchError text os TooDeep =
    (d : Data) × (m : NodeMap)
    × (read text ≡ Some d) × PatchesBy Numeric (nodes d) os m × (All OperationHasSortedKeys os → IsTooDeep m)
IsPatchError text os (Memory e) = ⊤
