-- Several edits of the text of a document, one after another.
use Rattle.std.specs.Prelude.{◌≡◌, ◌⊎◌, ℕ, List, [], ◌∷◌, ◌++◌, length, true, false, string_bytes, ⊤}
use Rattle.jsonptr.specs.Pointer.{tokens}
use Rattle.jsonptr.specs.Text.{Text}
use Rattle.jsonptr_comments.specs.Comments.{IsWithoutComments, IsUnterminated}
use Rattle.jsonptr_comments_step.specs.EditWithComments.{Becomes}
use Rattle.jsonptr_comments_edit.specs.Commented.{CommentedBytes, IsCommentedError}
use Rattle.jsonptr_text_digits.specs.Digits.{KeepsDigits}
use Rattle.jsonptr_text_step.specs.EditInText.{LacksInText}
use Rattle.jsonptr_text_step.specs.OneLine.{StaysOneLine}
use Rattle.jsonptr_text_edit.specs.Edits.{EditsText, EditBytes}
use Rattle.jsonptr_text_edit.specs.Errors.{IsEditError}
use Rattle.jsonptr_text_edit.specs.declared.edit.Edit.{Edit}
use Rattle.jsonptr_text_edit.specs.declared.edit.Edit.TheVariants.{Assign, Delete, Rename, Patch}
use Rattle.jsonptr_text_edit.specs.declared.edit_error.EditError.{EditError}
use Rattle.jptr_tasks.specs.Expanding.{HasParent, IsExpansionError}
use Rattle.jptr_tasks.specs.Failures.{of_edit_error}
use Rattle.jptr_tasks.specs.Reprinting.{KeepsGivenDigits, LosesDigits}
use Rattle.jptr_tasks.specs.declared.expansion.ExpansionError.{ExpansionError}
use Rattle.jptr_tasks.specs.declared.reprint.ExactError.{ExactError}
use Rattle.jptr_tasks.specs.declared.reprint.ExactError.TheVariants as exact
use Rattle.jptr_tasks.specs.declared.several.EditRules.{EditRules}
use Rattle.jptr_tasks.specs.declared.several.FailedEdit.{FailedEdit}
use Rattle.jptr_tasks.specs.declared.several.StepError.{StepError}
use Rattle.jptr_tasks.specs.declared.several.StepError.TheVariants as step
use Rattle.jptr_tasks.specs.declared.task_error.TaskError.{TaskError}
use Rattle.jptr_tasks.specs.declared.task_error.TaskError.TheVariants.{NotInPlace, NotThere, Memory}

-- `ChecksDigits rules`: the document may be printed anew, and no number may lose digits then
abbrev pub ChecksDigits : EditRules → Type 0
ChecksDigits rules = (rules.reprints ≡ true) × (rules.is_lossy ≡ false)

-- `IsMadeInPlace old edit new`: the edit turns the document of `old` into that of `new`. Only the bytes of the edit change, and a
-- text of one line stays one line
abbrev pub IsMadeInPlace : Text → Edit → Text → Type 0
IsMadeInPlace old edit new = EditsText old edit new × EditBytes old edit new × StaysOneLine old new

-- `IsPrintedAnew rules old edit new`: the edit turns the document of `old` into one that is printed anew. `new` is its text and a line
-- feed. No number loses digits unless the rules allow that
abbrev pub IsPrintedAnew : EditRules → Text → Edit → Text → Type 0
IsPrintedAnew rules old edit new =
    (rules.reprints ≡ true) × (printed : Text) × EditsText old edit printed × (new ≡ printed ++ 10 ∷ [])
    × (ChecksDigits rules → KeepsDigits old × KeepsGivenDigits edit)

-- `MakesText rules old edit new`: the edit makes `new` of `old`, in place or in a document that is printed anew
abbrev pub MakesText : EditRules → Text → Edit → Text → Type 0
MakesText rules old edit new = IsMadeInPlace old edit new ⊎ IsPrintedAnew rules old edit new

-- `FindsNothing old edit`: the edit deletes a value that is not there
abbrev pub FindsNothing : Text → Edit → Type 0
FindsNothing old (Assign pointer raw) = ⊥
FindsNothing old (Delete pointer) = LacksInText old (tokens pointer)
FindsNothing old (Rename pointer key) = ⊥
FindsNothing old (Patch patch) = ⊥

-- `IsPassedOver rules old edit`: the edit deletes a value that is not there, which the rules allow
abbrev pub IsPassedOver : EditRules → Text → Edit → Type 0
IsPassedOver rules old edit = (rules.skips_missing ≡ true) × FindsNothing old edit

-- `ExpandsNothing old edit`: the edit is no assignment, or one that creates no container and replaces no scalar by one
abbrev pub ExpandsNothing : Text → Edit → Type 0
ExpandsNothing old (Assign pointer raw) = HasParent old (tokens pointer)
ExpandsNothing old (Delete pointer) = ⊤
ExpandsNothing old (Rename pointer key) = ⊤
ExpandsNothing old (Patch patch) = ⊤

-- `IsAllowed rules old edit`: the rules allow that the edit creates the containers that it does
abbrev pub IsAllowed : EditRules → Text → Edit → Type 0
IsAllowed rules old edit = rules.expands ≡ false → ExpandsNothing old edit

-- `IsBareText rules text bare`: `bare` is the JSON text of the document: `text` itself, or `text` without comments and trailing commas,
-- if the rules allow these
abbrev pub IsBareText : EditRules → Text → Text → Type 0
IsBareText rules text bare =
    ((rules.has_comments ≡ false) × (bare ≡ text)) ⊎ ((rules.has_comments ≡ true) × IsWithoutComments text bare)

-- `MakesWithComments text edit new`: the edit turns the document of `text` without its comments into that of `new` without its
-- comments. Only the bytes of the edit change, and a text of one line stays one line
abbrev pub MakesWithComments : Text → Edit → Text → Type 0
MakesWithComments text edit new =
    Becomes (λ old made. EditsText old edit made) text new × CommentedBytes text edit new × StaysOneLine text new

-- `ChangesText rules text edit new`: the edit is allowed, and makes `new` of `text`: of a text with comments, or of one that is JSON
-- as it is
abbrev pub ChangesText : EditRules → Text → Edit → Text → Type 0
ChangesText rules text edit new =
    (bare : Text) × IsBareText rules text bare × IsAllowed rules bare edit
    × ((((rules.has_comments ≡ true) × MakesWithComments text edit new)) ⊎ ((bare ≡ text) × MakesText rules text edit new))

-- `SkipsEdit rules text edit`: the edit deletes a value that is not there, which the rules allow
abbrev pub SkipsEdit : EditRules → Text → Edit → Type 0
SkipsEdit rules text edit = (bare : Text) × IsBareText rules text bare × IsPassedOver rules bare edit

-- `MakesEdit rules text edit new`: the edit makes `new` of `text`, or it is passed over, and `new` is `text`
abbrev pub MakesEdit : EditRules → Text → Edit → Text → Type 0
MakesEdit rules text edit new = ChangesText rules text edit new ⊎ (SkipsEdit rules text edit × (new ≡ text))

-- `MakesEach rules old edits new`: the edits make `new` of `old`, each of the text that the one before left
abbrev pub MakesEach : EditRules → Text → List Edit → Text → Type 0
MakesEach rules old [] new = new ≡ old
MakesEach rules old (edit ∷ edits) new = (next : Text) × MakesEdit rules old edit next × MakesEach rules next edits new

-- `ExpandsBy old edit e`: the edit is an assignment, and `e` is why it would create a container, or replace a scalar by one
abbrev pub ExpandsBy : Text → Edit → ExpansionError → Type 0
ExpandsBy old (Assign pointer raw) e = IsExpansionError old (tokens pointer) e
ExpandsBy old (Delete pointer) e = ⊥
ExpandsBy old (Rename pointer key) e = ⊥
ExpandsBy old (Patch patch) e = ⊥

-- `IsFault old edit e`: `e` is the error of the edit, which is not possible
abbrev pub IsFault : Text → Edit → TaskError → Type 0
IsFault old edit e = (f : EditError) × (e ≡ of_edit_error f) × IsEditError old edit f

-- `IsTextError rules old edit e`: `e` is why the edit makes no text: it is not possible, or not in place while the document may not be
-- printed anew, or a number would lose digits, or an allocation failed
abbrev pub IsTextError : EditRules → Text → Edit → StepError → Type 0
IsTextError rules old edit (step.Comment e) = ⊥
IsTextError rules old edit (step.Expands e) = ⊥
IsTextError rules old edit (step.Edit e) =
    IsFault old edit e ⊎ ((e ≡ NotInPlace) × (rules.reprints ≡ false) × ((new : Text) × EditsText old edit new))
IsTextError rules old edit (step.Loses loss) =
    ChecksDigits rules × ((new : Text) × EditsText old edit new) × LosesDigits old edit loss

-- `IsBareError rules old edit e`: `e` is why the edit is not made in the JSON text `old`. The deletion of a value that is not there is
-- an error only if it is not passed over
abbrev pub IsBareError : EditRules → Text → Edit → StepError → Type 0
IsBareError rules old edit (step.Comment e) = ⊥
IsBareError rules old edit (step.Expands e) = (rules.expands ≡ false) × ExpandsBy old edit e
IsBareError rules old edit (step.Edit e) =
    IsTextError rules old edit (step.Edit e) × (e ≡ NotThere → rules.skips_missing ≡ false)
IsBareError rules old edit (step.Loses loss) = IsTextError rules old edit (step.Loses loss)

-- `IsCommentedFault text edit e`: `e` is the error of the edit, which is not possible in the text without its comments
abbrev pub IsCommentedFault : Text → Edit → TaskError → Type 0
IsCommentedFault text edit e = (f : EditError) × (e ≡ of_edit_error f) × IsCommentedError text edit f

-- `IsCommentedStepError rules text bare edit e`: `e` is why the edit is not made in the text with comments `text`, which is `bare`
-- without them: it is not allowed, not possible or not in place
abbrev pub IsCommentedStepError : EditRules → Text → Text → Edit → StepError → Type 0
IsCommentedStepError rules text bare edit (step.Comment e) = ⊥
IsCommentedStepError rules text bare edit (step.Expands e) = (rules.expands ≡ false) × ExpandsBy bare edit e
IsCommentedStepError rules text bare edit (step.Edit e) =
    (IsCommentedFault text edit e
    ⊎ ((e ≡ NotInPlace) × ((new : Text) × Becomes (λ old made. EditsText old edit made) text new)))
    × (e ≡ NotThere → rules.skips_missing ≡ false)
IsCommentedStepError rules text bare edit (step.Loses loss) = ⊥

-- `IsUnreadable rules text e`: the text has a comment that is not closed, as `e` says, or an allocation failed
abbrev pub IsUnreadable : EditRules → Text → StepError → Type 0
IsUnreadable rules text (step.Comment e) = (rules.has_comments ≡ true) × IsUnterminated text e.offset
IsUnreadable rules text (step.Edit (Memory e)) = ⊤
IsUnreadable rules text e = ⊥

-- `IsStepError rules text edit e`: `e` is why the edit is not made in `text`
abbrev pub IsStepError : EditRules → Text → Edit → StepError → Type 0
IsStepError rules text edit e =
    IsUnreadable rules text e
    ⊎ ((bare : Text) × IsBareText rules text bare
    × (((rules.has_comments ≡ true) × IsCommentedStepError rules text bare edit e) ⊎ ((bare ≡ text) × IsBareError rules text edit e)))

-- `IsFailedEdit rules before i edit f`: `f` says that the edit with the index `i` is not made in the text `before`, and why
abbrev pub IsFailedEdit : EditRules → Text → ℕ → Edit → FailedEdit → Type 0
IsFailedEdit rules before i edit f =
    (f.index ≡ i) × (string_bytes f.before ≡ before) × IsStepError rules before edit f.error

-- `StopsEach rules old edits f`: some edits are made, and the next one fails on the text that they leave: with its index, that text,
-- and why
pub record StopsEach (rules : EditRules) (old : Text) (edits : List Edit) (f : FailedEdit) : Type 0 where
  pub done : List Edit
  pub fails : Edit
  pub rest : List Edit
  pub split : edits ≡ done ++ fails ∷ rest
  pub before : Text
  pub made : MakesEach rules old done before
  pub failed : IsFailedEdit rules before (length done) fails f

-- `of_exact_error e`: the error of a step for the error `e` of its edit
abbrev pub of_exact_error : ExactError → StepError
of_exact_error (exact.Edit e) = step.Edit (of_edit_error e)
of_exact_error (exact.Loses loss) = step.Loses loss
