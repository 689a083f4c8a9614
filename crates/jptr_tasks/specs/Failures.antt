-- The errors of a command: how those of the calls below become them, and the exit status of each.
use Rattle.std.specs.Prelude.{ℕ}
use Rattle.jsonptr_io.specs.declared.input.InputError.{InputError}
use Rattle.jsonptr_io.specs.declared.input.InputError.TheVariants as input
use Rattle.jsonptr_value.specs.declared.from_text.ReadError.{ReadError}
use Rattle.jsonptr_value.specs.declared.from_text.ReadError.TheVariants as unread
use Rattle.jsonptr_text_resolve.specs.declared.resolve.InTextError.{InTextError}
use Rattle.jsonptr_text_resolve.specs.declared.resolve.InTextError.TheVariants as in_text
use Rattle.jsonptr_text_step.specs.declared.located.LocateError.{LocateError}
use Rattle.jsonptr_text_step.specs.declared.located.LocateError.TheVariants as locate
use Rattle.jsonptr_text_step.specs.declared.rename.RenameError.{RenameError}
use Rattle.jsonptr_text_step.specs.declared.rename.RenameError.TheVariants as rename
use Rattle.jsonptr_text_edit.specs.declared.edit_error.EditError.{EditError}
use Rattle.jsonptr_text_edit.specs.declared.edit_error.EditError.TheVariants as edit
use Rattle.jsonptr_text_value.specs.declared.patch_text_error.PatchTextError.{PatchTextError}
use Rattle.jsonptr_text_value.specs.declared.patch_text_error.PatchTextError.TheVariants as patch_text
use Rattle.jsonptr_text_paths.specs.declared.build.LineError.{LineError}
use Rattle.jsonptr_text_paths.specs.declared.build.LineError.TheVariants as line
use Rattle.jsonptr_text_paths.specs.declared.build.BuildError.{BuildError}
use Rattle.jsonptr_text_paths.specs.declared.build.BuildError.TheVariants as build
use Rattle.jsonptr_text_relayout.specs.declared.relaid.RelayoutError.{RelayoutError}
use Rattle.jsonptr_text_relayout.specs.declared.relaid.RelayoutError.TheVariants as relayout
use Rattle.jptr_tasks.specs.declared.task_error.TaskError.{TaskError}
use Rattle.jptr_tasks.specs.declared.task_error.TaskError.TheVariants.{NotPatch, Resolve, Assign, NotThere, NotRenamed, PatchFailed, TooDeep, NotInPlace, NotLocated, PatchTooDeep, LineBreak, BadLine, NotUtf8, NotJson, Memory, Read, Write}

-- `status_of_line e`: the exit status if a line adds no value, for the reason `e`
abbrev pub status_of_line : LineError → ℕ
status_of_line line.NoTab = 3
status_of_line line.NotPointer = 3
status_of_line line.TooDeep = 6
status_of_line line.NotJson = 3
status_of_line (line.Assign e) = 6

-- `status_of_rename e`: the exit status if a member is not renamed, for the reason `e`
abbrev pub status_of_rename : RenameError → ℕ
status_of_rename rename.NotThere = 1
status_of_rename rename.NotAMember = 6
status_of_rename rename.KeyTaken = 6

-- `status_of_task e`: the exit status of the program after the error `e`
abbrev pub status_of_task : TaskError → ℕ
status_of_task (NotPatch e) = 3
status_of_task (Resolve e) = 1
status_of_task (Assign e) = 6
status_of_task NotThere = 1
status_of_task (NotRenamed e) = status_of_rename e
status_of_task (PatchFailed e) = 1
status_of_task TooDeep = 6
status_of_task NotInPlace = 6
status_of_task NotLocated = 6
status_of_task PatchTooDeep = 6
status_of_task LineBreak = 6
status_of_task (BadLine number e) = status_of_line e
status_of_task NotUtf8 = 3
status_of_task NotJson = 3
status_of_task (Memory e) = 4
status_of_task Read = 5
status_of_task Write = 5

-- `of_input_error e`: the error of the command if its input cannot be read
abbrev pub of_input_error : InputError → TaskError
of_input_error (input.Memory e) = Memory e
of_input_error input.Read = Read

-- `of_read_error e`: the error of the command if a text is not read
abbrev pub of_read_error : ReadError → TaskError
of_read_error unread.NotJson = NotJson
of_read_error (unread.Memory e) = Memory e

-- `of_in_text_error e`: the error of the command if a pointer does not resolve in a text
abbrev pub of_in_text_error : InTextError → TaskError
of_in_text_error in_text.NotJson = NotJson
of_in_text_error (in_text.Resolve e) = Resolve e
of_in_text_error (in_text.Memory e) = Memory e

-- `of_locate_error e`: the error of the command if a value is not located in a text
abbrev pub of_locate_error : LocateError → TaskError
of_locate_error locate.NotJson = NotJson
of_locate_error (locate.Resolve e) = Resolve e
of_locate_error locate.NotLocated = NotLocated
of_locate_error (locate.Memory e) = Memory e

-- `of_edit_error e`: the error of the command if an edit of a text is not made
abbrev pub of_edit_error : EditError → TaskError
of_edit_error edit.NotJson = NotJson
of_edit_error (edit.Assign e) = Assign e
of_edit_error edit.NotThere = NotThere
of_edit_error (edit.Rename e) = NotRenamed e
of_edit_error (edit.Patch e) = PatchFailed e
of_edit_error edit.TooDeep = TooDeep
of_edit_error (edit.Memory e) = Memory e

-- `of_patch_text_error e`: the error of the command if a patch document is not read or not made
abbrev pub of_patch_text_error : PatchTextError → TaskError
of_patch_text_error (patch_text.NotPatch e) = NotPatch e
of_patch_text_error patch_text.NotLocated = NotLocated
of_patch_text_error patch_text.TooDeep = PatchTooDeep
of_patch_text_error (patch_text.Memory e) = Memory e

-- `of_build_error e`: the error of the command if lines build no document
abbrev pub of_build_error : BuildError → TaskError
of_build_error (build.Line number e) = BadLine number e
of_build_error (build.Memory e) = Memory e

-- `of_relayout_error e`: the error of the command if a document is not laid out as a text is
abbrev pub of_relayout_error : RelayoutError → TaskError
of_relayout_error relayout.NotJson = NotJson
of_relayout_error relayout.TooDeep = TooDeep
of_relayout_error (relayout.Memory e) = Memory e
