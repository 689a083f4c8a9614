-- Words of private clauses: one edit, one operation, and operations of a patch, in a text with comments.
use Rattle.std.specs.Prelude.{◌≡◌, ◌⊎◌, List, Option}
use Rattle.json.specs.Lex.{tokens as lexed}
use Rattle.jsonptr.specs.Text.{Text}
use Rattle.jsonptr.specs.Pointer.{tokens}
use Rattle.jsonptr_comments.specs.Comments.{IsWithoutComments}
use Rattle.jsonptr_patch.specs.declared.operation.Operation.{Operation}
use Rattle.jsonptr_text_value.specs.Operations.{operations_in}
use Rattle.jsonptr_text_value.specs.declared.raw_operation.RawOperation.{RawOperation}
use Rattle.jsonptr_text_value.specs.declared.raw_value.RawValue.{RawValue}
use Rattle.jsonptr_text_step.specs.PatchInText.{PatchesInText}
use Rattle.jsonptr_text_step.specs.PrivateOperating.{OperatesInText}
use Rattle.jsonptr_text_step.specs.RawPatching.{GivenBytes}
use Rattle.jsonptr_text_step.specs.Steps.{StepsText, StepBytes}
use Rattle.jsonptr_text_step.specs.declared.step.Step.{Step}
use Rattle.jsonptr_text_step.specs.declared.step.Step.TheVariants.{Assign, Delete, Add, Replace, Rename}
use Rattle.jsonptr_comments_step.specs.Edits.{IsOneEdit, IsRenaming}
use Rattle.jsonptr_comments_step.specs.Patches.{OperatesAs, CommentedPatchBytes}

-- `step_tokens step`: the tokens of the pointer at which the step edits
abbrev pub step_tokens : Step → List Text
step_tokens (Assign pointer raw) = tokens pointer
step_tokens (Delete pointer) = tokens pointer
step_tokens (Add pointer printed) = tokens pointer
step_tokens (Replace pointer printed) = tokens pointer
step_tokens (Rename pointer key) = tokens pointer

-- `IsPutAs new text ts made json`: the text `made` is `text` after one edit at the tokens `ts`. Without comments it is `json`,
-- which has the JSON tokens of `new`
pub record IsPutAs (new text : Text) (ts : List Text) (made json : Text) : Type 0 where
  pub without : IsWithoutComments made json
  pub same : lexed json ≡ lexed new
  pub piece : IsOneEdit text ts made

-- `IsStepped text bare step made json`: without comments, `text` is `bare` and `made` is `json`. The step makes a text `new` of
-- `bare`, and `made` is put as that
pub record IsStepped (text bare : Text) (step : Step) (made json : Text) : Type 0 where
  pub was : IsWithoutComments text bare
  pub new : Text
  pub stepped : StepsText bare step new
  pub bytes : StepBytes bare step new
  pub put : IsPutAs new text (step_tokens step) made json

-- `IsRenamedAs new text ts made`: the text `made` is `text`, or that with the name of the member at the tokens `ts` replaced. Without
-- comments it has the JSON tokens of `new`
pub record IsRenamedAs (new text : Text) (ts : List Text) (made : Text) : Type 0 where
  pub json : Text
  pub without : IsWithoutComments made json
  pub same : lexed json ≡ lexed new
  pub piece : (made ≡ text) ⊎ IsRenaming text ts made

-- `IsOperated text bare o raw made json`: the operation `o`, with the text of its value, makes `made` of `text`. Without comments
-- `made` is `json`, and the operation makes that of `bare`
pub record IsOperated (text bare : Text) (o : Operation) (raw : Option RawValue) (made json : Text) : Type 0 where
  pub without : IsWithoutComments made json
  pub means : OperatesInText bare o json
  pub bytes : OperatesAs (λ old new. GivenBytes old o raw new) text o made

-- `IsPatched text bare rs made json`: the same of the operations `rs`. `bare` is the text of a document
pub record IsPatched (text bare : Text) (rs : List RawOperation) (made json : Text) : Type 0 where
  pub without : IsWithoutComments made json
  pub means : PatchesInText bare (operations_in rs) json
  pub bytes : CommentedPatchBytes text rs made
