-- What an edit makes of the text of a document with comments.
use Rattle.std.specs.Prelude.{◌≡◌, ◌⊎◌, ⊤}
use Rattle.jsonptr.specs.Pointer.{tokens}
use Rattle.jsonptr.specs.Text.{Text}
use Rattle.jsonptr_comments.specs.Comments.{IsWithoutComments}
use Rattle.jsonptr_text_step.specs.Bytes.{DeletesBytes}
use Rattle.jsonptr_text_step.specs.Giving.{AssignsGiven}
use Rattle.jsonptr_text_step.specs.Renaming.{RenamesBytes}
use Rattle.jsonptr_comments_step.specs.EditWithComments.{EditsAs}
use Rattle.jsonptr_comments_step.specs.Edits.{IsRenaming}
use Rattle.jsonptr_comments_step.specs.Patches.{EditsAt, PatchEdits, CommentedPatchBytes}
use Rattle.jsonptr_text_value.specs.Operations.{operations_in}
use Rattle.jsonptr_text_edit.specs.Errors.{IsEditError}
use Rattle.jsonptr_text_edit.specs.declared.edit.Edit.{Edit}
use Rattle.jsonptr_text_edit.specs.declared.edit.Edit.TheVariants.{Assign, Delete, Rename, Patch}
use Rattle.jsonptr_text_edit.specs.declared.edit_error.EditError.{EditError}
use Rattle.jsonptr_text_edit.specs.declared.edit_error.EditError.TheVariants.{Memory}

-- `CommentedBytes text edit made`: without its comments, `made` has the JSON tokens that the edit makes of `text` without its
-- comments, one for one, and it is `text` with one piece replaced: the name of a member that is renamed. A patch says so of
-- each operation
abbrev pub CommentedBytes : Text → Edit → Text → Type 0
CommentedBytes text (Assign pointer raw) made = EditsAt (λ old new. AssignsGiven old (tokens pointer) raw new) text (tokens pointer) made
CommentedBytes text (Delete pointer) made = EditsAt (λ old new. DeletesBytes old (tokens pointer) new) text (tokens pointer) made
CommentedBytes text (Rename pointer key) made =
    EditsAs (λ old new. RenamesBytes old (tokens pointer) key.now new) text made × ((made ≡ text) ⊎ IsRenaming text (tokens pointer) made)
CommentedBytes text (Patch patch) made =
    CommentedPatchBytes text patch.operations.items made × PatchEdits text (operations_in patch.operations.items) made

-- `IsCommentedError text edit e`: `e` is why the edit is not made in the text without its comments, unless an allocation failed
abbrev pub IsCommentedError : Text → Edit → EditError → Type 0
IsCommentedError text edit (Memory e) = ⊤
IsCommentedError text edit e = (old : Text) × IsWithoutComments text old × IsEditError old edit e
