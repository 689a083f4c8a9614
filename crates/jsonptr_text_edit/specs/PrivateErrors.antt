-- Words of private clauses: the error of an edit by its kind.
use Rattle.jsonptr.specs.declared.assign.Error.{Error as AssignError}
use Rattle.jsonptr_text_step.specs.declared.stepped.StepError.{StepError as KindError}
use Rattle.jsonptr_text_step.specs.declared.stepped.StepError.TheVariants as kind
use Rattle.jsonptr_text_step.specs.declared.rename.RenameError.{RenameError}
use Rattle.jsonptr_patch.specs.declared.failed_operation.FailedOperation.{FailedOperation}
use Rattle.jsonptr_value.specs.declared.from_text.ReadError.{ReadError}
use Rattle.jsonptr_value.specs.declared.from_text.ReadError.TheVariants as unread
use Rattle.jsonptr_text_edit.specs.declared.edit_error.EditError.{EditError}
use Rattle.jsonptr_text_edit.specs.declared.edit_error.EditError.TheVariants.{NotJson, Assign, Rename, Patch, TooDeep, Memory}

-- `of_assign_error e`: the error of an assignment
abbrev pub of_assign_error : KindError AssignError → EditError
of_assign_error kind.NotJson = NotJson
of_assign_error (kind.Refused e) = Assign e
of_assign_error kind.TooDeep = TooDeep
of_assign_error (kind.Memory e) = Memory e

-- `of_read_error e`: the error of a deletion
abbrev pub of_read_error : ReadError → EditError
of_read_error unread.NotJson = NotJson
of_read_error (unread.Memory e) = Memory e

-- `of_rename_error e`: the error of a renaming
abbrev pub of_rename_error : KindError RenameError → EditError
of_rename_error kind.NotJson = NotJson
of_rename_error (kind.Refused e) = Rename e
of_rename_error kind.TooDeep = TooDeep
of_rename_error (kind.Memory e) = Memory e

-- `of_patch_error e`: the error of a patch
abbrev pub of_patch_error : KindError FailedOperation → EditError
of_patch_error kind.NotJson = NotJson
of_patch_error (kind.Refused e) = Patch e
of_patch_error kind.TooDeep = TooDeep
of_patch_error (kind.Memory e) = Memory e
