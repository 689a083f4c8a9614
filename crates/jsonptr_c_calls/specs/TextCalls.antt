-- Calls on a text in a handle.
use Rattle.std.specs.Prelude.{◌⊎◌, ◌==◌, ℕ, List, Bool, IsUtf8, drop, if◌then◌else◌, length, string_bytes, take}
use Rattle.jsonptr.specs.Text.{Text}
use Rattle.jsonptr_text_edit.specs.declared.edit.Edit.{Edit}
use Rattle.jsonptr_text_value.specs.declared.patch_text.PatchText.{PatchText}
use Rattle.jsonptr_text_value.specs.declared.raw_value.RawValue.{RawValue}
use Rattle.jsonptr_c_calls.specs.Failures.{IsNotParsed, IsNotUtf8, LacksRoom}
use Rattle.jsonptr_c_calls.specs.OpenTexts.{Assigns, Deletes, IsEdited, IsNoPatchOf, IsNotAt, IsNotEdited, IsPatchOf, IsRawOf, IsSame, LacksEdit, Patches, Renames}
use Rattle.jsonptr_c_calls.specs.TextHandle.{ChangesText, FailsOnText}
use Rattle.jsonptr_c_calls.specs.declared.call_error.Argument.TheVariants as argument
use Rattle.jsonptr_c_calls.specs.declared.call_error.CallError.{CallError}
use Rattle.jsonptr_c_calls.specs.declared.change.Change.{Change}
use Rattle.jsonptr_c_calls.specs.declared.text_format.TheConstants as number
use Rattle.jsonptr_c_calls.specs.declared.text_format.TextFormat.{TextFormat}
use Rattle.jsonptr_c_calls.specs.declared.text_format.TextFormat.TheVariants.{Json, Commented, Toml}
use Rattle.jsonptr_c_calls.specs.declared.text_handle.TextHandle.{TextHandle}

-- `text_format_of n`: the format with this number, which is 0 of JSON
abbrev pub text_format_of : ℕ → TextFormat
text_format_of n = if n == number.JSONC then Commented else if n == number.TOML then Toml else Json

-- `Makes Asks d change n`: an edit that is asked for turns the text in the handle `d` into that in `n`, and `change` says which bytes
-- it replaces
abbrev pub Makes : (Edit → Type 0) → TextHandle → Change → TextHandle → Type 0
Makes Asks d change n = ChangesText d (λ t u. (edit : Edit) × Asks edit × IsEdited t edit u change) n

-- `FindsNothing Asks d n`: an edit that is asked for deletes a value that is not in the text in the handle `d`. That text and its
-- format are unchanged in `n`
abbrev pub FindsNothing : (Edit → Type 0) → TextHandle → TextHandle → Type 0
FindsNothing Asks d n = ChangesText d (λ t u. (edit : Edit) × Asks edit × LacksEdit t edit × IsSame t u) n

-- `AssignsText pointer value edit`: the edit assigns the value that the text `value` is at the pointer
abbrev pub AssignsText : List ℕ → List ℕ → Edit → Type 0
AssignsText pointer value edit = (raw : RawValue) × IsRawOf value raw × Assigns pointer raw edit

-- `PatchesText text edit`: the edit applies the patch document that `text` is
abbrev pub PatchesText : List ℕ → Edit → Type 0
PatchesText text edit = (patch : PatchText) × IsPatchOf text patch × Patches patch edit

-- `IsNotAssignedIn may_reformat value d pointer e`: the value that `value` is is not assigned in the text in the handle `d`, and `e` reports
-- why
abbrev pub IsNotAssignedIn : Bool → List ℕ → TextHandle → List ℕ → CallError → Type 0
IsNotAssignedIn may_reformat value d pointer e =
    IsNotParsed value e
    ⊎ ((raw : RawValue) × IsUtf8 value × IsRawOf value raw
    × FailsOnText d (λ t. IsNotAt may_reformat t pointer (Assigns pointer raw) e) e)

-- `IsNotDeletedIn may_reformat d pointer e`: the value is not deleted in the text in the handle `d`, and `e` reports why
abbrev pub IsNotDeletedIn : Bool → TextHandle → List ℕ → CallError → Type 0
IsNotDeletedIn may_reformat d pointer e = FailsOnText d (λ t. IsNotAt may_reformat t pointer (Deletes pointer) e) e

-- `IsNotRenamedIn may_reformat key d pointer e`: the member does not get the key in the text in the handle `d`, and `e` reports why
abbrev pub IsNotRenamedIn : Bool → List ℕ → TextHandle → List ℕ → CallError → Type 0
IsNotRenamedIn may_reformat key d pointer e =
    IsNotUtf8 argument.Token key e
    ⊎ (IsUtf8 key × FailsOnText d (λ t. IsNotAt may_reformat t pointer (Renames pointer key) e) e)

-- `IsNotPatchedIn may_reformat text d e`: the patch document that `text` is is not applied to the text in the handle `d`, and `e` reports
-- why
abbrev pub IsNotPatchedIn : Bool → List ℕ → TextHandle → CallError → Type 0
IsNotPatchedIn may_reformat text d e =
    IsNoPatchOf text e
    ⊎ ((patch : PatchText) × IsUtf8 text × IsPatchOf text patch
    × FailsOnText d (λ t. (edit : Edit) × Patches patch edit × IsNotEdited may_reformat t edit e) e)

-- `part start end text`: the bytes of the text from one offset up to another one, as far as it has them
abbrev pub part : ℕ → ℕ → Text → Text
part start end text = drop start (take end text)

-- `IsNotCopied start end d room e`: those bytes of the text in the handle `d` are more than `room`, or it holds none, and `e` reports
-- that
abbrev pub IsNotCopied : ℕ → ℕ → TextHandle → ℕ → CallError → Type 0
IsNotCopied start end d room e =
    FailsOnText d (λ t. LacksRoom (length (part start end (string_bytes t.text))) room e) e
