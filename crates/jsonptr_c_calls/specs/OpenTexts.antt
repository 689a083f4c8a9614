-- Texts that are edited many times.
use Rattle.std.specs.Prelude.{◌≡◌, ◌⊎◌, ◌+◌, ◌++◌, ℕ, List, All, Bool, true, false, not, IsUtf8, Some, None, length, string_bytes, ⊤}
use Rattle.json.specs.Lex.{tokens as lexed}
use Rattle.serde_json.specs.Data.{Data}
use Rattle.serde_json.specs.Read.{read}
use Rattle.toml.specs.Data as toml
use Rattle.toml.specs.Parse.{parse_document}
use Rattle.toml.specs.View.{view as toml_view}
use Rattle.jsonptr.specs.Pointer.{tokens}
use Rattle.jsonptr.specs.Text.{Text}
use Rattle.jsonptr_comments.specs.Comments.{IsUnterminated, IsWithoutComments}
use Rattle.jsonptr_comments_edit.specs.Commented.{CommentedBytes, IsCommentedError}
use Rattle.jsonptr_comments_step.specs.EditWithComments.{Becomes}
use Rattle.jsonptr_patch.specs.declared.operation.Operation.{Operation}
use Rattle.jsonptr_text_edit.specs.Edits.{EditBytes, EditsText}
use Rattle.jsonptr_text_edit.specs.Errors.{IsEditError}
use Rattle.jsonptr_text_edit.specs.declared.edit.Edit.{Edit}
use Rattle.jsonptr_text_edit.specs.declared.edit.Edit.TheVariants as edits
use Rattle.jsonptr_text_edit.specs.declared.edit_error.EditError.{EditError}
use Rattle.jsonptr_text_edit.specs.declared.edit_error.EditError.TheVariants as why
use Rattle.jsonptr_text_step.specs.OneLine.{StaysOneLine}
use Rattle.jsonptr_text_value.specs.Operations.{IsGivenIn, operations_in}
use Rattle.jsonptr_text_value.specs.Raw.{value_of_raw}
use Rattle.jsonptr_text_value.specs.declared.patch_text.PatchText.{PatchText}
use Rattle.jsonptr_text_value.specs.declared.raw_value.RawValue.{RawValue}
use Rattle.jsonptr_toml.specs.InToml.{IsDeep, ReadsAsToml}
use Rattle.jsonptr_toml_edit.specs.TomlEditErrors.{IsTomlEditError}
use Rattle.jsonptr_toml_edit.specs.TomlEdits.{EditsToml, TomlEditBytes}
use Rattle.jsonptr_toml_edit.specs.declared.edit.TomlEdit.{TomlEdit}
use Rattle.jsonptr_toml_edit.specs.declared.edit.TomlEdit.TheVariants as toml_edits
use Rattle.jsonptr_toml_edit.specs.declared.edit_error.TomlEditError.{TomlEditError}
use Rattle.jsonptr_toml_edit.specs.declared.edit_error.TomlEditError.TheVariants as toml_why
use Rattle.jsonptr_c_calls.specs.Changing.{IsChange, IsSmallest}
use Rattle.jsonptr_c_calls.specs.ErrorNumbers.{capped}
use Rattle.jsonptr_c_calls.specs.Failures.{IsNoPointer, IsNotUtf8, IsOutOfMemory}
use Rattle.jsonptr_c_calls.specs.Marks.{IsMark}
use Rattle.jsonptr_c_calls.specs.Patches.{IsNotPatchText, IsPatchText}
use Rattle.jsonptr_c_calls.specs.Pointers.{HasTokens}
use Rattle.jsonptr_c_calls.specs.TomlValues.{toml_value_of}
use Rattle.jsonptr_c_calls.specs.declared.call_error.Argument.TheVariants as argument
use Rattle.jsonptr_c_calls.specs.declared.call_error.CallError.{CallError}
use Rattle.jsonptr_c_calls.specs.declared.call_error.CallError.TheVariants.{Assign, NoTomlText, NotInPlace, NotJson, NotLocated, NotRenamed, NotToml, NotTomlValue, OpenComment, OtherFormat, PatchFailed, TextTooDeep, TomlTooDeep, Memory}
use Rattle.jsonptr_c_calls.specs.declared.change.Change.{Change}
use Rattle.jsonptr_c_calls.specs.declared.open_text.OpenText.{OpenText}
use Rattle.jsonptr_c_calls.specs.declared.text_format.TextFormat.{TextFormat}
use Rattle.jsonptr_c_calls.specs.declared.text_format.TextFormat.TheVariants.{Json, Commented, Toml}

-- ---- Reading

-- `Reads format text`: the text, without a byte order mark, is that of a document
abbrev pub Reads : TextFormat → Text → Type 0
Reads Json text = (d : Data) × (read text ≡ Some d)
Reads Commented text = (bare : Text) × (d : Data) × IsWithoutComments text bare × (read bare ≡ Some d)
Reads Toml text = (d : toml.Data) × ReadsAsToml text d

-- `ReadsAs format text`: the text is that of a document, after a byte order mark or without one
abbrev pub ReadsAs : TextFormat → Text → Type 0
ReadsAs format text = (mark body : Text) × IsMark mark × (text ≡ mark ++ body) × Reads format body

-- `IsNotJson text e`: `text` is not JSON, and `e` reports that
abbrev pub IsNotJson : Text → CallError → Type 0
IsNotJson text e = (offset : ℕ) × (read text ≡ None) × (e ≡ NotJson offset)

-- `IsOpenComment text skipped e`: a block comment of the text is not closed, and `e` has its offset, with the `skipped` bytes
-- before the text
abbrev pub IsOpenComment : Text → ℕ → CallError → Type 0
IsOpenComment text skipped e = (n : ℕ) × IsUnterminated text n × (e ≡ OpenComment (capped (n + skipped)))

-- `IsNotToml text e`: `text` is not TOML, or its values nest deeper than 80, and `e` reports that
abbrev pub IsNotToml : Text → CallError → Type 0
IsNotToml text e =
    ((offset : ℕ) × (parse_document text ≡ None) × (e ≡ NotToml offset)) ⊎ (IsDeep text × (e ≡ TomlTooDeep))

-- `IsNoDocument format text skipped e`: the text, with `skipped` bytes before it, is not that of a document, and `e` reports why
abbrev pub IsNoDocument : TextFormat → Text → ℕ → CallError → Type 0
IsNoDocument Json text skipped e = IsNotJson text e
IsNoDocument Commented text skipped e =
    IsOpenComment text skipped e ⊎ ((bare : Text) × IsWithoutComments text bare × IsNotJson bare e)
IsNoDocument Toml text skipped e = IsNotToml text e

-- `FailsToRead format text e`: the text is not that of a document, or an allocation failed, and `e` reports why
abbrev pub FailsToRead : TextFormat → Text → CallError → Type 0
FailsToRead format text e =
    IsOutOfMemory e
    ⊎ ((mark body : Text) × IsMark mark × (text ≡ mark ++ body) × IsNoDocument format body (length mark) e)

-- `IsNotOpened format bytes e`: the `bytes` are not the text of a document, or an allocation failed, and `e` reports why
abbrev pub IsNotOpened : TextFormat → List ℕ → CallError → Type 0
IsNotOpened format bytes e = IsNotUtf8 argument.Text bytes e ⊎ (IsUtf8 bytes × FailsToRead format bytes e)

-- ---- Edits of TOML

-- `IsTomlEditOf edit made`: `made` is the edit of a TOML text that asks for the same as `edit`. A value that is assigned is the TOML
-- value that the JSON value is
abbrev pub IsTomlEditOf : Edit → TomlEdit → Type 0
IsTomlEditOf (edits.Assign pointer raw) (toml_edits.AssignValue made value) =
    (made ≡ pointer) × (toml_value_of (value_of_raw raw) ≡ Some (toml_view value))
IsTomlEditOf (edits.Delete pointer) (toml_edits.Delete made) = made ≡ pointer
IsTomlEditOf (edits.Rename pointer key) (toml_edits.Rename made given) = (made ≡ pointer) × (given ≡ key)
IsTomlEditOf edit made = ⊥

-- `IsNoTomlEdit edit e`: no edit of a TOML text asks for the same as `edit`, and `e` reports why
abbrev pub IsNoTomlEdit : Edit → CallError → Type 0
IsNoTomlEdit (edits.Assign pointer raw) e = (toml_value_of (value_of_raw raw) ≡ None) × (e ≡ NotTomlValue)
IsNoTomlEdit (edits.Patch patch) e = e ≡ OtherFormat
IsNoTomlEdit edit e = ⊥

-- `ReportsTomlEdit f e`: the error `e` of a call reports why an edit of a TOML text fails. It is never the deletion of a value that
-- is not there
abbrev pub ReportsTomlEdit : TomlEditError → CallError → Type 0
ReportsTomlEdit toml_why.NotToml e = IsOutOfMemory e ⊎ ((offset : ℕ) × (e ≡ NotToml offset))
ReportsTomlEdit toml_why.DocumentTooDeep e = e ≡ TomlTooDeep
ReportsTomlEdit (toml_why.Assign f) e = e ≡ Assign f
ReportsTomlEdit toml_why.NotThere e = ⊥
ReportsTomlEdit (toml_why.Rename f) e = e ≡ NotRenamed f
ReportsTomlEdit toml_why.TooDeep e = e ≡ TomlTooDeep
ReportsTomlEdit toml_why.NoText e = e ≡ NoTomlText
ReportsTomlEdit (toml_why.Memory f) e = e ≡ Memory f

-- ---- Edits of a text without a byte order mark

-- `EditsIn format old edit new`: both texts are those of documents, and the edit turns the first document into the second
abbrev pub EditsIn : TextFormat → Text → Edit → Text → Type 0
EditsIn Json old edit new = EditsText old edit new
EditsIn Commented old edit new = Becomes (λ json made. EditsText json edit made) old new
EditsIn Toml old edit new = (made : TomlEdit) × IsTomlEditOf edit made × EditsToml old made new

-- `BytesIn format old edit new`: which bytes of the text `old` the edit changes
abbrev pub BytesIn : TextFormat → Text → Edit → Text → Type 0
BytesIn Json old edit new = EditBytes old edit new
BytesIn Commented old edit new = CommentedBytes old edit new
BytesIn Toml old edit new = (made : TomlEdit) × IsTomlEditOf edit made × TomlEditBytes old made new

-- `KeepsLine format old new`: if the text `old` is one line, so is `new`, unless it is TOML
abbrev pub KeepsLine : TextFormat → Text → Text → Type 0
KeepsLine Json old new = StaysOneLine old new
KeepsLine Commented old new = StaysOneLine old new
KeepsLine Toml old new = ⊤

-- `ReportsEdit f e`: the error `e` of a call reports why an edit fails. It is never the deletion of a value that is not there
abbrev pub ReportsEdit : EditError → CallError → Type 0
ReportsEdit why.NotJson e = IsOutOfMemory e ⊎ ((offset : ℕ) × (e ≡ NotJson offset))
ReportsEdit (why.Assign f) e = e ≡ Assign f
ReportsEdit why.NotThere e = ⊥
ReportsEdit (why.Rename f) e = e ≡ NotRenamed f
ReportsEdit (why.Patch f) e = e ≡ PatchFailed f
ReportsEdit why.TooDeep e = e ≡ TextTooDeep
ReportsEdit (why.Memory f) e = e ≡ Memory f

-- `FailsIn format old edit e`: the edit fails in the text, and `e` reports why
abbrev pub FailsIn : TextFormat → Text → Edit → CallError → Type 0
FailsIn Json old edit e = (f : EditError) × IsEditError old edit f × ReportsEdit f e
FailsIn Commented old edit e =
    IsOutOfMemory e
    ⊎ (((n : ℕ) × IsUnterminated old n × (e ≡ OpenComment n))
    ⊎ ((f : EditError) × IsCommentedError old edit f × ReportsEdit f e))
FailsIn Toml old edit e =
    IsOutOfMemory e
    ⊎ (IsNoTomlEdit edit e
    ⊎ ((made : TomlEdit) × (f : TomlEditError) × IsTomlEditOf edit made × IsTomlEditError old made f × ReportsTomlEdit f e))

-- `LacksEditIn format old edit`: the edit deletes a value that is not there
abbrev pub LacksEditIn : TextFormat → Text → Edit → Type 0
LacksEditIn Json old edit = IsEditError old edit why.NotThere
LacksEditIn Commented old edit = IsCommentedError old edit why.NotThere
LacksEditIn Toml old edit = (made : TomlEdit) × IsTomlEditOf edit made × IsTomlEditError old made toml_why.NotThere

-- ---- Edits of a text

-- `IsMade format text edit made in_place`: the edit makes `made` of `text`, in place or not. Both texts have the same byte order
-- mark, or none
pub record IsMade (format : TextFormat) (text : Text) (edit : Edit) (made : Text) (in_place : Bool) : Type 0 where
  pub mark : Text
  pub old : Text
  pub new : Text
  pub is_mark : IsMark mark
  pub old_parts : text ≡ mark ++ old
  pub new_parts : made ≡ mark ++ new
  pub edited : EditsIn format old edit new
  pub bytes : in_place ≡ true → BytesIn format old edit new
  pub lines : in_place ≡ true → KeepsLine format old new

-- `FailsToEdit format text edit e`: the edit fails in the text, and `e` reports why
abbrev pub FailsToEdit : TextFormat → Text → Edit → CallError → Type 0
FailsToEdit format text edit e =
    IsOutOfMemory e ⊎ ((mark body : Text) × IsMark mark × (text ≡ mark ++ body) × FailsIn format body edit e)

-- `LacksIn format text edit`: the edit deletes a value that is not there
abbrev pub LacksIn : TextFormat → Text → Edit → Type 0
LacksIn format text edit = (mark body : Text) × IsMark mark × (text ≡ mark ++ body) × LacksEditIn format body edit

-- ---- The same of an open text

-- `IsSame t u`: the text and its format are unchanged
abbrev pub IsSame : OpenText → OpenText → Type 0
IsSame t u = (u.text ≡ t.text) × (u.format ≡ t.format)

-- `IsEdited t edit u change`: the edit turns the text `t` into `u`, and `change`, the smallest one, says which bytes it replaces. If
-- the document is not printed anew, the edit is made in place
abbrev pub IsEdited : OpenText → Edit → OpenText → Change → Type 0
IsEdited t edit u change =
    IsMade t.format (string_bytes t.text) edit (string_bytes u.text) (not change.is_reformatted)
    × (u.format ≡ t.format) × IsChange (string_bytes t.text) (string_bytes u.text) change
    × IsSmallest (string_bytes t.text) (string_bytes u.text) change

-- `LacksEdit t edit`: the edit deletes a value that is not there
abbrev pub LacksEdit : OpenText → Edit → Type 0
LacksEdit t edit = LacksIn t.format (string_bytes t.text) edit

-- `IsOnlyReformatted t edit e`: the edit is possible, but not in place, and `e` reports that
abbrev pub IsOnlyReformatted : OpenText → Edit → CallError → Type 0
IsOnlyReformatted t edit e =
    (made : Text) × IsMade t.format (string_bytes t.text) edit made false × (e ≡ NotInPlace)

-- `IsNotEdited may_reformat t edit e`: the edit is not made in the text, and `e` reports why
abbrev pub IsNotEdited : Bool → OpenText → Edit → CallError → Type 0
IsNotEdited may_reformat t edit e =
    FailsToEdit t.format (string_bytes t.text) edit e
    ⊎ ((may_reformat ≡ false) × IsOnlyReformatted t edit e)

-- ---- What a call asks for

-- `IsRawOf text raw`: `raw` is the value that `text` is, and has its JSON tokens, one for one
abbrev pub IsRawOf : List ℕ → RawValue → Type 0
IsRawOf text raw = (read text ≡ Some (value_of_raw raw)) × (lexed (string_bytes raw.printed.flat) ≡ lexed text)

-- `Assigns bytes raw edit`: the edit assigns `raw` at the pointer `bytes`
abbrev pub Assigns : List ℕ → RawValue → Edit → Type 0
Assigns bytes raw (edits.Assign pointer given) = HasTokens bytes (tokens pointer) × (given ≡ raw)
Assigns bytes raw edit = ⊥

-- `Deletes bytes edit`: the edit deletes the value at the pointer `bytes`
abbrev pub Deletes : List ℕ → Edit → Type 0
Deletes bytes (edits.Delete pointer) = HasTokens bytes (tokens pointer)
Deletes bytes edit = ⊥

-- `Renames bytes key edit`: the edit renames the member at the pointer `bytes` to `key`
abbrev pub Renames : List ℕ → Text → Edit → Type 0
Renames bytes key (edits.Rename pointer given) = HasTokens bytes (tokens pointer) × (given.now ≡ key)
Renames bytes key edit = ⊥

-- `Patches patch edit`: the edit applies the patch
abbrev pub Patches : PatchText → Edit → Type 0
Patches patch (edits.Patch given) = given ≡ patch
Patches patch edit = ⊥

-- `IsPatchOf text patch`: `patch` is the patch document that `text` is. The values that it brings have the JSON tokens of parts of
-- `text`
abbrev pub IsPatchOf : List ℕ → PatchText → Type 0
IsPatchOf text patch =
    IsPatchText text (operations_in patch.operations.items) × All (IsGivenIn text) patch.operations.items

-- `IsNoPatchOf text e`: `text` is not a patch document, or the text of one of its values is not found, and `e` reports why
abbrev pub IsNoPatchOf : List ℕ → CallError → Type 0
IsNoPatchOf text e =
    IsNotPatchText text e
    ⊎ ((os : List Operation) × IsUtf8 text × IsPatchText text os × (e ≡ NotLocated))

-- `IsNotAt may_reformat t bytes Asks e`: `bytes` are not a pointer, or the edit that is asked for is not made in the text `t`, and `e`
-- reports why
abbrev pub IsNotAt : Bool → OpenText → List ℕ → (Edit → Type 0) → CallError → Type 0
IsNotAt may_reformat t bytes Asks e =
    IsNoPointer bytes e ⊎ ((edit : Edit) × IsUtf8 bytes × Asks edit × IsNotEdited may_reformat t edit e)
