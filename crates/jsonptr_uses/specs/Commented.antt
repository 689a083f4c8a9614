-- Settings in a JSON text with comments.
use Rattle.std.specs.Prelude.{◌≡◌, ℕ, List, ⊤}
use Rattle.serde_json.specs.Data.{Data}
use Rattle.jsonptr.specs.Text.{Text}
use Rattle.jsonptr_comments.specs.Comments.{IsWithoutComments, IsUnterminated}
use Rattle.jsonptr_text_resolve.specs.InText.{FindsInText, IsInTextError}
use Rattle.jsonptr_patch.specs.declared.failed_operation.FailedOperation.{FailedOperation}
use Rattle.jsonptr_patch.specs.declared.operation.PatchError.TheVariants.{TestFailed}
use Rattle.jsonptr_text_edit.specs.Errors.{IsEditError}
use Rattle.jsonptr_text_edit.specs.declared.edit.Edit.{Edit}
use Rattle.jsonptr_text_edit.specs.declared.edit_error.EditError.TheVariants.{Patch}
use Rattle.jsonptr_uses.specs.declared.commented.SettingError.{SettingError}
use Rattle.jsonptr_uses.specs.declared.commented.SettingError.TheVariants.{Comment, InText, Memory}

-- `HasSetting text tokens v`: without its comments, the text reads as a document in which `tokens` lead to `v`
abbrev pub HasSetting : Text → List Text → Data → Type 0
HasSetting text tokens v = (json : Text) × IsWithoutComments text json × FindsInText json tokens v

-- `IsSettingError text tokens e`: `e` is why there is no such value, unless an allocation failed
abbrev pub IsSettingError : Text → List Text → SettingError → Type 0
IsSettingError text tokens (Comment e) = IsUnterminated text e.offset
IsSettingError text tokens (InText e) = (json : Text) × IsWithoutComments text json × IsInTextError json tokens e
IsSettingError text tokens (Memory e) = ⊤

-- `FailsTest text edit`: the edit is a patch with a test that fails, in the document of the text without its comments
abbrev pub FailsTest : Text → Edit → Type 0
FailsTest text edit = (json : Text) × (k : ℕ) × (f : FailedOperation) × IsWithoutComments text json
    × IsEditError json edit (Patch f) × (f.error ≡ TestFailed k)
