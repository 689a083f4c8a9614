-- The message of the record of an error is the text of the error.
use Rattle.std.proofs.Common.{◌≡◌, ℕ, List, refl}
use Rattle.jsonptr.specs.declared.resolve.Error.TheVariants as resolve_error
use Rattle.jsonptr.specs.declared.assign.Error.TheVariants as assign_error
use Rattle.jsonptr.specs.Types.ParseError.TheVariants as parse_error
use Rattle.jsonptr_patch.specs.declared.operation.PatchError.{PatchError}
use Rattle.jsonptr_patch.specs.declared.operation.PatchError.TheVariants as patch_error
use Rattle.jsonptr_patch_document.specs.declared.member.Member.TheVariants as member
use Rattle.jsonptr_patch_document.specs.declared.error.PatchDocumentError.TheVariants as document_error
use Rattle.jsonptr_text_step.specs.declared.rename.RenameError.TheVariants as rename
use Rattle.jsonptr_fragment.specs.declared.error.FragmentError.TheVariants as fragment_error
use Rattle.jsonptr_c_calls.specs.Messages.{error_message, message_of, patch_message}
use Rattle.jsonptr_c_calls.specs.ErrorNumbers.{fault_number, patch_row, record_of, with_status}
use Rattle.jsonptr_c_calls.specs.declared.error_numbers.TheConstants as number
use Rattle.jsonptr_c_calls.specs.declared.call_error.CallError.TheVariants.{NotFinite}
use Rattle.jsonptr_c_calls.specs.declared.call_error.CallError.{CallError}
use Rattle.jsonptr_c_calls.specs.declared.call_error.CallError.TheVariants.{Memory, NoRoom, NoDocument, NotUtf8, NotJson, NotExact, NotPointer, NoToken, Resolve, NotLocated, NoValue, OtherType, Assign, NotPatch, PatchFailed, TooDeep, InverseTooDeep, TextTooDeep, NotRenamed, OpenComment, NotInPlace, NotToml, TomlTooDeep, NotTomlValue, NoTomlText, OtherFormat, NotFragment}

-- that of an operation that fails, whatever pointer is at fault
failed_one : (e : PatchError) (m : ℕ) → message_of (with_status number.PATCH_FAILED (patch_row e m)) ≡ patch_message e
failed_one (patch_error.NoTarget i (resolve_error.FailedToParseIndex position offset source)) m = refl
failed_one (patch_error.NoTarget i (resolve_error.OutOfBounds position offset source)) m = refl
failed_one (patch_error.NoTarget i (resolve_error.NotFound position offset)) m = refl
failed_one (patch_error.NoTarget i (resolve_error.Unreachable position offset)) m = refl
failed_one (patch_error.BadPlace i (assign_error.FailedToParseIndex position offset source)) m = refl
failed_one (patch_error.BadPlace i (assign_error.OutOfBounds position offset source)) m = refl
failed_one (patch_error.MoveIntoSelf i) m = refl
failed_one (patch_error.TestFloat i) m = refl
failed_one (patch_error.TestFailed i) m = refl

pub message_one : (e : CallError) (bytes : List ℕ) → message_of (record_of e bytes) ≡ error_message e
message_one (Memory e) bytes = refl
message_one (NoRoom needed) bytes = refl
message_one NoDocument bytes = refl
message_one (NotUtf8 a offset) bytes = refl
message_one (NotJson offset) bytes = refl
message_one (NotExact l) bytes = refl
message_one (NotPointer parse_error.NoLeadingSlash) bytes = refl
message_one (NotPointer (parse_error.InvalidEncoding offset source)) bytes = refl
message_one NoToken bytes = refl
message_one (Resolve (resolve_error.FailedToParseIndex position offset source)) bytes = refl
message_one (Resolve (resolve_error.OutOfBounds position offset source)) bytes = refl
message_one (Resolve (resolve_error.NotFound position offset)) bytes = refl
message_one (Resolve (resolve_error.Unreachable position offset)) bytes = refl
message_one NotLocated bytes = refl
message_one (NoValue offset) bytes = refl
message_one OtherType bytes = refl
message_one NotFinite bytes = refl
message_one (Assign (assign_error.FailedToParseIndex position offset source)) bytes = refl
message_one (Assign (assign_error.OutOfBounds position offset source)) bytes = refl
message_one (NotPatch document_error.NotArray) bytes = refl
message_one (NotPatch (document_error.NotObject i)) bytes = refl
message_one (NotPatch (document_error.MissingMember i member.Op)) bytes = refl
message_one (NotPatch (document_error.MissingMember i member.Path)) bytes = refl
message_one (NotPatch (document_error.MissingMember i member.From)) bytes = refl
message_one (NotPatch (document_error.MissingMember i member.Value)) bytes = refl
message_one (NotPatch (document_error.NotString i member.Op)) bytes = refl
message_one (NotPatch (document_error.NotString i member.Path)) bytes = refl
message_one (NotPatch (document_error.NotString i member.From)) bytes = refl
message_one (NotPatch (document_error.NotString i member.Value)) bytes = refl
message_one (NotPatch (document_error.UnknownOp i)) bytes = refl
message_one (NotPatch (document_error.NotPointer i member.Op parse_error.NoLeadingSlash)) bytes = refl
message_one (NotPatch (document_error.NotPointer i member.Path parse_error.NoLeadingSlash)) bytes = refl
message_one (NotPatch (document_error.NotPointer i member.From parse_error.NoLeadingSlash)) bytes = refl
message_one (NotPatch (document_error.NotPointer i member.Value parse_error.NoLeadingSlash)) bytes = refl
message_one (NotPatch (document_error.NotPointer i member.Op (parse_error.InvalidEncoding offset source))) bytes = refl
message_one (NotPatch (document_error.NotPointer i member.Path (parse_error.InvalidEncoding offset source))) bytes = refl
message_one (NotPatch (document_error.NotPointer i member.From (parse_error.InvalidEncoding offset source))) bytes = refl
message_one (NotPatch (document_error.NotPointer i member.Value (parse_error.InvalidEncoding offset source))) bytes = refl
message_one (PatchFailed f) bytes = failed_one f.error (fault_number f.pointer)
message_one TooDeep bytes = refl
message_one InverseTooDeep bytes = refl
message_one TextTooDeep bytes = refl
message_one (NotRenamed rename.NotThere) bytes = refl
message_one (NotRenamed rename.NotAMember) bytes = refl
message_one (NotRenamed rename.KeyTaken) bytes = refl
message_one (OpenComment offset) bytes = refl
message_one NotInPlace bytes = refl
message_one (NotToml offset) bytes = refl
message_one TomlTooDeep bytes = refl
message_one NotTomlValue bytes = refl
message_one NoTomlText bytes = refl
message_one OtherFormat bytes = refl
message_one (NotFragment fragment_error.NoHash) bytes = refl
message_one (NotFragment (fragment_error.BadByte offset)) bytes = refl
message_one (NotFragment (fragment_error.BadEscape offset)) bytes = refl
message_one (NotFragment (fragment_error.NotUtf8 offset)) bytes = refl
message_one (NotFragment (fragment_error.NotPointer offset parse_error.NoLeadingSlash)) bytes = refl
message_one (NotFragment (fragment_error.NotPointer offset (parse_error.InvalidEncoding slash source))) bytes = refl
