-- Several edits, one after another.
use Rattle.std.proofs.Common.{◌≡◌, inl, inr, ℕ, List, [], ◌∷◌, ◌++◌, length, Bool, true, false, not, Option, Some, None, Result, Ok, Err, IfOk, IfErr, OnOk, MatchOption, String, string_bytes, refl, sym, ◌∙◌, subst}
use Rattle.jsonptr.specs.Text.{Text}
use Rattle.jsonptr_text_edit.specs.Errors.{IsEditError}
use Rattle.jsonptr_text_edit.specs.declared.edit.Edit.{Edit}
use Rattle.jsonptr_text_edit.specs.declared.edit.Edit.TheVariants.{Assign, Delete, Rename, Patch}
use Rattle.jsonptr_text_edit.specs.declared.edit_error.EditError.TheVariants as error
use Rattle.jptr_tasks.specs.PrivateSeveral.{IsPassedOverIn, IsOutOfMemory}
use Rattle.jptr_tasks.specs.Several.{MakesEach, MakesEdit, StopsEach, IsFailedEdit, MakesText, MakesWithComments, ChangesText, SkipsEdit, IsAllowed, IsPassedOver, IsBareText, IsBareError, IsCommentedStepError, IsStepError, IsTextError, FindsNothing}
use Rattle.jptr_tasks.specs.declared.several.FailedEdit.{FailedEdit}
use Rattle.jptr_tasks.specs.declared.several.StepError.{StepError}
use Rattle.jptr_tasks.specs.declared.several.StepError.TheVariants as step
use Rattle.jptr_tasks.specs.declared.task_error.TaskError.TheVariants.{Memory}
use Rattle.jsonptr_comments.specs.Comments.{IsWithoutComments}
use Rattle.jptr_tasks.specs.declared.several.EditRules.{EditRules}
use Rattle.std.specs.declared.alloc.AllocError.{AllocError}
use Rattle.std.specs.declared.alloc.Global.{Global}

-- one edit more
pub one_edit_more : (rules : EditRules) (old : Text) (done : List Edit) (edit : Edit) (mid new : Text) → MakesEach rules old done mid → MakesEdit rules mid edit new → MakesEach rules old (done ++ edit ∷ []) new
one_edit_more rules old [] edit mid new h k = (new, subst (λ (t : Text). MakesEdit rules t edit new) h k, refl)
one_edit_more rules old (e ∷ done) edit mid new h k = (h.0, h.1, one_edit_more rules h.0 done edit mid new h.2 k)

-- a failed allocation is an error of every edit
pub any_memory : (old : Text) (edit : Edit) (f : AllocError) → IsEditError old edit (error.Memory f)
any_memory old (Assign pointer raw) f = tt
any_memory old (Delete pointer) f = tt
any_memory old (Rename pointer key) f = tt
any_memory old (Patch patch) f = tt

-- an edit that finds nothing is a deletion
pub finds_nothing : (old : Text) (edit : Edit) → IsEditError old edit error.NotThere → FindsNothing old edit
finds_nothing old (Assign pointer raw) h = h
finds_nothing old (Delete pointer) h = h
finds_nothing old (Rename pointer key) h = h
finds_nothing old (Patch patch) h = h

-- a failed allocation is an error of every text
pub text_memory : (rules : EditRules) (old : Text) (edit : Edit) (e : StepError) → IsOutOfMemory e → IsTextError rules old edit e
text_memory rules old edit (step.Edit (Memory f)) h = inl (error.Memory f, refl, any_memory old edit f)
text_memory rules old edit e h = absurd h

-- ---- one edit

-- of a text that is JSON as it is
pub once_bare : (rules : EditRules) (text : Text) (edit : Edit) (r : Result (Option (String Global)) StepError) → IsBareText rules text text
    → OnOk r (IsAllowed rules text edit)
    → IfOk r (λ o. MatchOption o (IsPassedOver rules text edit) (λ s. MakesText rules text edit (string_bytes s)))
    → IfOk r (λ o. MatchOption o (SkipsEdit rules text edit) (λ s. ChangesText rules text edit (string_bytes s)))
once_bare rules text edit (Ok None) bare allowed h = (text, bare, h)
once_bare rules text edit (Ok (Some s)) bare allowed h = (text, bare, allowed, inr (refl, h))
once_bare rules text edit (Err e) bare allowed h = tt

pub once_bare_fails : (rules : EditRules) (text : Text) (edit : Edit) (r : Result (Option (String Global)) StepError) → IsBareText rules text text
    → IfErr r (IsBareError rules text edit) → IfErr r (IsStepError rules text edit)
once_bare_fails rules text edit (Ok o) bare h = tt
once_bare_fails rules text edit (Err e) bare h = inr (text, bare, inr (refl, h))

-- of a text with comments
pub once_commented : (rules : EditRules) (whole text bare : Text) (edit : Edit) (r : Result (Option (String Global)) StepError) → rules.has_comments ≡ true → whole ≡ text → IsWithoutComments text bare
    → OnOk r (IsAllowed rules bare edit)
    → IfOk r (λ o. MatchOption o (IsPassedOverIn rules whole edit) (λ s. MakesWithComments whole edit (string_bytes s)))
    → IfOk r (λ o. MatchOption o (SkipsEdit rules text edit) (λ s. ChangesText rules text edit (string_bytes s)))
once_commented rules whole text bare edit (Ok None) has same without allowed h =
    let k : IsPassedOverIn rules text edit = subst (λ (t : Text). IsPassedOverIn rules t edit) same h in
    (k.0, inr (has, k.1), k.2)
once_commented rules whole text bare edit (Ok (Some s)) has same without allowed h =
    (bare, inr (has, without), allowed, inl (has, subst (λ (t : Text). MakesWithComments t edit (string_bytes s)) same h))
once_commented rules whole text bare edit (Err e) has same without allowed h = tt

pub once_commented_fails : (rules : EditRules) (whole text bare : Text) (edit : Edit) (r : Result (Option (String Global)) StepError) → rules.has_comments ≡ true → whole ≡ text → IsWithoutComments text bare
    → IfErr r (IsCommentedStepError rules whole bare edit) → IfErr r (IsStepError rules text edit)
once_commented_fails rules whole text bare edit (Ok o) has same without h = tt
once_commented_fails rules whole text bare edit (Err e) has same without h =
    inr (bare, inr (has, without), inl (has, subst (λ (t : Text). IsCommentedStepError rules t bare edit e) same h))

pub is_false : (b : Bool) → not b ≡ true → b ≡ false
is_false true h = sym h
is_false false h = refl

pub is_true : (b : Bool) → not b ≡ false → b ≡ true
is_true true h = refl
is_true false h = sym h

-- some edits are made, and the next one is not
pub stops_at : (rules : EditRules) (old before : Text) (edits done rest : List Edit) (edit : Edit) (i : ℕ) (f : FailedEdit) → edits ≡ done ++ edit ∷ rest → i ≡ length done → MakesEach rules old done before → IsFailedEdit rules before i edit f → StopsEach rules old edits f
stops_at rules old before edits done rest edit i f split index made failed = record {
  done = done;
  fails = edit;
  rest = rest;
  split = split;
  before = before;
  made = made;
  failed = (failed.0 ∙ index, failed.1, failed.2);
}
