-- What an edit makes of a text, and why it is not made.
use Rattle.std.proofs.Common.{◌≡◌, List, Option, Some, None, string_bytes, refl, ◌∙◌, subst}
use Rattle.std.specs.declared.alloc.AllocError.{AllocError}
use Rattle.serde_json.specs.Data.{Data}
use Rattle.serde_json.specs.Read.{read}
use Rattle.jsonptr.proofs.Calling.{ascends_read}
use Rattle.jsonptr.specs.Json.{HasSortedKeys}
use Rattle.jsonptr.specs.Text.{Text}
use Rattle.jsonptr.specs.declared.assign.Error.{Error as AssignError}
use Rattle.jsonptr_patch.specs.declared.failed_operation.FailedOperation.{FailedOperation}
use Rattle.jsonptr_patch.specs.declared.operation.Operation.{Operation}
use Rattle.jsonptr_value.specs.Reading.{IsReadError}
use Rattle.jsonptr_value.specs.declared.from_text.ReadError.{ReadError}
use Rattle.jsonptr_value.specs.declared.from_text.ReadError.TheVariants as unread
use Rattle.jsonptr_text_value.specs.Raw.{or_null, value_of_raw}
use Rattle.jsonptr_text_value.specs.declared.raw_value.RawValue.{RawValue}
use Rattle.jsonptr_text_step.specs.Bytes.{KeepsBytes}
use Rattle.jsonptr_text_step.specs.EditInText.{IsAssignError}
use Rattle.jsonptr_text_step.specs.PatchInText.{IsPatchError}
use Rattle.jsonptr_text_step.specs.Renaming.{IsRenameError}
use Rattle.jsonptr_text_step.specs.declared.stepped.Stepped.{Stepped as Made}
use Rattle.jsonptr_text_step.specs.declared.stepped.StepError.{StepError as KindError}
use Rattle.jsonptr_text_step.specs.declared.stepped.StepError.TheVariants as kind
use Rattle.jsonptr_text_step.specs.declared.rename.RenameError.{RenameError}
use Rattle.jsonptr_text_edit.specs.Edited.{IfInPlace}
use Rattle.jsonptr_text_edit.specs.Edits.{EditsText}
use Rattle.jsonptr_text_edit.specs.Errors.{FailsToAssign, FailsToDelete, FailsToRename, FailsToPatch, IsEditError}
use Rattle.jsonptr_text_edit.specs.PrivateErrors.{of_assign_error, of_read_error, of_rename_error, of_patch_error}
use Rattle.jsonptr_text_edit.specs.PrivateKept.{IsMadeAs}
use Rattle.jsonptr_text_edit.specs.declared.edit.Edit.{Edit}
use Rattle.jsonptr_text_edit.specs.declared.edit.Edit.TheVariants.{Assign, Delete, Rename, Patch}
use Rattle.jsonptr_text_edit.specs.declared.edit_error.EditError.TheVariants.{Memory}
use Rattle.jsonptr_text_edit.specs.declared.edited.Edited.{Edited}
use Rattle.jsonptr_text_edit.specs.declared.edited.Edited.TheVariants.{InPlace, Reprinted}

-- ---- the new text

-- the new text reads as a document
pub edits_reads : (old : Text) (edit : Edit) (new : Text) → EditsText old edit new → (d : Data) × (read new ≡ Some d)
edits_reads old (Assign pointer raw) new h = (h.1, h.3)
edits_reads old (Delete pointer) new h = (h.1, h.3)
edits_reads old (Rename pointer key) new h = (h.1, h.3)
edits_reads old (Patch patch) new h = (h.1, h.3)

-- only the document of the new text counts
pub edits_same : (old : Text) (edit : Edit) (new other : Text) → read other ≡ read new → EditsText old edit new → EditsText old edit other
edits_same old (Assign pointer raw) new other same h = (h.0, h.1, h.2, same ∙ h.3, h.4, h.5)
edits_same old (Delete pointer) new other same h = (h.0, h.1, h.2, same ∙ h.3, h.4, h.5)
edits_same old (Rename pointer key) new other same h = (h.0, h.1, h.2, same ∙ h.3, h.4)
edits_same old (Patch patch) new other same h = (h.0, h.1, h.2, same ∙ h.3, h.4)

-- what holds of an edit that was made in place holds of the same one
pub kept_bytes : (P : Text → Type 0) (m : Made) (e : Edited) → IsMadeAs m e → KeepsBytes P m → IfInPlace P e
kept_bytes P m (InPlace s) same h = subst (KeepsBytes P) same h
kept_bytes P m (Reprinted s) same h = tt

-- ---- errors

-- the keys of a value that is read are sorted
null_or_sorted : (text : Text) (o : Option Data) → read text ≡ o → HasSortedKeys (or_null o)
null_or_sorted text None is = tt
null_or_sorted text (Some d) is = ascends_read text d is

raw_sorted : (raw : RawValue) → HasSortedKeys (value_of_raw raw)
raw_sorted raw = null_or_sorted (string_bytes raw.printed.flat) (read (string_bytes raw.printed.flat)) refl

pub assign_fails : (old : Text) (ts : List Text) (raw : RawValue) (e : KindError AssignError) → IsAssignError old ts (value_of_raw raw) e → FailsToAssign old ts raw (of_assign_error e)
assign_fails old ts raw kind.NotJson h = h
assign_fails old ts raw (kind.Refused f) h = h
assign_fails old ts raw kind.TooDeep h = (h.0, h.1, h.2, h.3, h.4, h.5 (raw_sorted raw))
assign_fails old ts raw (kind.Memory f) h = tt

pub delete_fails : (old : Text) (ts : List Text) (e : ReadError) → IsReadError old e → FailsToDelete old ts (of_read_error e)
delete_fails old ts unread.NotJson h = h
delete_fails old ts (unread.Memory f) h = tt

pub rename_fails : (old : Text) (ts : List Text) (k : Text) (e : KindError RenameError) → IsRenameError old ts k e → FailsToRename old ts k (of_rename_error e)
rename_fails old ts k kind.NotJson h = h
rename_fails old ts k (kind.Refused f) h = h
rename_fails old ts k kind.TooDeep h = h
rename_fails old ts k (kind.Memory f) h = tt

pub patch_fails : (old : Text) (os : List Operation) (e : KindError FailedOperation) → IsPatchError old os e → FailsToPatch old os (of_patch_error e)
patch_fails old os kind.NotJson h = h
patch_fails old os (kind.Refused f) h = h
patch_fails old os kind.TooDeep h = h
patch_fails old os (kind.Memory f) h = tt

-- a failed allocation is an error of each edit
pub memory_fails : (old : Text) (edit : Edit) (e : AllocError) → IsEditError old edit (Memory e)
memory_fails old (Assign pointer raw) e = tt
memory_fails old (Delete pointer) e = tt
memory_fails old (Rename pointer key) e = tt
memory_fails old (Patch patch) e = tt
