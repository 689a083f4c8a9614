-- What each step of several edits makes, and why it fails. Used only by private contracts.
use Rattle.std.specs.Prelude.{⊤}
use Rattle.jsonptr.specs.Text.{Text}
use Rattle.jsonptr_comments.specs.Comments.{IsWithoutComments}
use Rattle.jsonptr_text_edit.specs.Edits.{EditsText}
use Rattle.jsonptr_text_edit.specs.declared.edit.Edit.{Edit}
use Rattle.jptr_tasks.specs.Reprinting.{LosesDigits}
use Rattle.jptr_tasks.specs.Several.{ChecksDigits, IsFault, IsPassedOver}
use Rattle.jptr_tasks.specs.declared.several.EditRules.{EditRules}
use Rattle.jptr_tasks.specs.declared.several.StepError.{StepError}
use Rattle.jptr_tasks.specs.declared.several.StepError.TheVariants as step
use Rattle.jptr_tasks.specs.declared.task_error.TaskError.TheVariants.{Memory}

-- `IsPassedOverIn rules text edit`: the edit deletes a value that is not there in the text with comments `text`, which the rules allow
abbrev pub IsPassedOverIn : EditRules → Text → Edit → Type 0
IsPassedOverIn rules text edit = (bare : Text) × IsWithoutComments text bare × IsPassedOver rules bare edit

-- `IsMadeError rules old edit e`: `e` is why the edit is not made: it is not possible, or a number would lose digits in a document that
-- is printed anew
abbrev pub IsMadeError : EditRules → Text → Edit → StepError → Type 0
IsMadeError rules old edit (step.Comment e) = ⊥
IsMadeError rules old edit (step.Expands e) = ⊥
IsMadeError rules old edit (step.Edit e) = IsFault old edit e
IsMadeError rules old edit (step.Loses loss) =
    ChecksDigits rules × ((new : Text) × EditsText old edit new) × LosesDigits old edit loss

-- `IsOutOfMemory e`: `e` says that an allocation failed
abbrev pub IsOutOfMemory : StepError → Type 0
IsOutOfMemory (step.Edit (Memory e)) = ⊤
IsOutOfMemory e = ⊥

-- `IsEditFault old edit e`: `e` is the error of the edit alone
abbrev pub IsEditFault : Text → Edit → StepError → Type 0
IsEditFault old edit (step.Edit e) = IsFault old edit e
IsEditFault old edit e = ⊥
