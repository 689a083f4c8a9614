-- The bytes that a patch changes whose values bring their own texts.
use Rattle.std.specs.Prelude.{◌≡◌, List, [], ◌∷◌, Option, IfSome, string_bytes}
use Rattle.json.specs.Lex.{tokens as lexed}
use Rattle.serde_json.specs.Data.{Data}
use Rattle.serde_json.specs.View.{view}
use Rattle.jsonptr.specs.Text.{Text}
use Rattle.jsonptr_patch.specs.declared.operation.Operation.{Operation}
use Rattle.jsonptr_patch.specs.declared.operation.Operation.TheVariants.{Add, Remove, Replace, Move, Copy, Test}
use Rattle.jsonptr_text_step.specs.Bytes.{ReplacesBytes, DeletesBytes}
use Rattle.jsonptr_text_step.specs.PatchInText.{AddsAtBytes, added_text, MovesBytes, CopiesBytes}
use Rattle.jsonptr_text_value.specs.declared.raw_operation.RawOperation.{RawOperation}
use Rattle.jsonptr_text_value.specs.declared.raw_value.RawValue.{RawValue}

-- `HasTokens text t`: if there is a text, `t` has its tokens, one for one
abbrev pub HasTokens : Option RawValue → Text → Type 0
HasTokens text t = IfSome text (λ raw. lexed t ≡ lexed (string_bytes raw.printed.flat))

-- `AddsGiven old tokens e text new`: the value `e` is added. If there is a text of it, what is put into the text `old` as the
-- value has its tokens, one for one
abbrev pub AddsGiven : Text → List Text → Data → Option RawValue → Text → Type 0
AddsGiven old tokens e text new = (b : AddsAtBytes old tokens e new) × HasTokens text (added_text old tokens e new b)

-- `ReplacesGiven old tokens e text new`: the same for a value that is replaced by `e`
abbrev pub ReplacesGiven : Text → List Text → Data → Option RawValue → Text → Type 0
ReplacesGiven old tokens e text new = (b : ReplacesBytes old new tokens e) × HasTokens text b.piece

-- `GivenBytes old o text new`: which bytes of the text `old` the operation `o` changes, as `OperationBytes` says it. The value
-- that it puts there has the tokens of the text, if there is one
abbrev pub GivenBytes : Text → Operation → Option RawValue → Text → Type 0
GivenBytes old (Add path value) text new = AddsGiven old path (view value) text new
GivenBytes old (Remove path) text new = DeletesBytes old path new
GivenBytes old (Replace path value) text new = ReplacesGiven old path (view value) text new
GivenBytes old (Move from path) text new = MovesBytes old from path new
GivenBytes old (Copy from path) text new = CopiesBytes old from path new
GivenBytes old (Test path value) text new = new ≡ old

-- `RawPatchBytes old rs new`: which bytes the operations `rs` change, each in the text that the one before left
abbrev pub RawPatchBytes : Text → List RawOperation → Text → Type 0
RawPatchBytes old [] new = new ≡ old
RawPatchBytes old (r ∷ rs) new = (mid : Text) × GivenBytes old r.operation r.raw mid × RawPatchBytes mid rs new
