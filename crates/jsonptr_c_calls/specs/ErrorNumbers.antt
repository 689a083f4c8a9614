-- The numbers by which C knows an error: a row for each error. They never change.
use Rattle.std.specs.Prelude.{ℕ, ◌+◌, ◌-◌, ◌^◌, ◌==◌, not, List, Option, Some, None, count_by, drop, length, min, take, unwrap_or}
use Rattle.std.specs.List.{prefix_len}
use Rattle.jsonptr.specs.Types.ParseError.{ParseError}
use Rattle.jsonptr.specs.Resolve.{resolve_offset_of}
use Rattle.jsonptr.specs.Assign.{assign_offset_of}
use Rattle.jsonptr.specs.declared.resolve.Error as resolve
use Rattle.jsonptr.specs.declared.resolve.Error.TheVariants as resolve_error
use Rattle.jsonptr.specs.declared.assign.Error as assign
use Rattle.jsonptr.specs.declared.assign.Error.TheVariants as assign_error
use Rattle.jsonptr.specs.Types.ParseError.TheVariants as parse_error
use Rattle.jsonptr_patch.specs.declared.failed_operation.PatchPointer.{PatchPointer}
use Rattle.jsonptr_patch.specs.declared.failed_operation.PatchPointer.TheVariants as pointer
use Rattle.jsonptr_patch.specs.declared.operation.PatchError.{PatchError}
use Rattle.jsonptr_patch.specs.declared.operation.PatchError.TheVariants as patch_error
use Rattle.jsonptr_patch_document.specs.declared.member.Member.{Member}
use Rattle.jsonptr_patch_document.specs.declared.member.Member.TheVariants as member
use Rattle.jsonptr_patch_document.specs.declared.error.PatchDocumentError.{PatchDocumentError}
use Rattle.jsonptr_patch_document.specs.declared.error.PatchDocumentError.TheVariants as document_error
use Rattle.jsonptr_text_step.specs.declared.rename.RenameError.{RenameError}
use Rattle.jsonptr_text_step.specs.declared.rename.RenameError.TheVariants as rename
use Rattle.jsonptr_fragment.specs.declared.error.FragmentError.{FragmentError}
use Rattle.jsonptr_fragment.specs.declared.error.FragmentError.TheVariants as fragment_error
use Rattle.jsonptr_c_calls.specs.declared.error_numbers.TheConstants as number
use Rattle.jsonptr_c_calls.specs.declared.call_error.Argument.{Argument}
use Rattle.jsonptr_c_calls.specs.declared.call_error.Argument.TheVariants as argument
use Rattle.jsonptr_c_calls.specs.declared.call_error.CallError.TheVariants.{NotFinite}
use Rattle.jsonptr_c_calls.specs.declared.call_error.CallError.{CallError}
use Rattle.jsonptr_c_calls.specs.declared.call_error.CallError.TheVariants.{Memory, NoRoom, NoDocument, NotUtf8, NotJson, NotExact, NotPointer, NoToken, Resolve, NotLocated, NoValue, OtherType, Assign, NotPatch, PatchFailed, TooDeep, InverseTooDeep, TextTooDeep, NotRenamed, OpenComment, NotInPlace, NotToml, TomlTooDeep, NotTomlValue, NoTomlText, OtherFormat, NotFragment}
use Rattle.jsonptr_c_calls.specs.declared.error_numbers.ErrorRecord.{ErrorRecord}

-- `row status kind member operation position slash offset length`: the record with these numbers
abbrev pub row : ℕ → ℕ → ℕ → ℕ → ℕ → ℕ → ℕ → ℕ → ErrorRecord
row status kind member operation position slash offset length = record {
  status = status;
  kind = kind;
  member = member;
  reserved = 0;
  operation = operation;
  position = position;
  slash = slash;
  offset = offset;
  length = length;
  reserved_2 = 0;
  reserved_3 = 0;
}

-- `no_error`: the record of a call that succeeds
abbrev pub no_error : ErrorRecord
no_error = row 0 0 0 0 0 0 0 0

-- `of_kind k`: the record of an error that has only the kind `k`
abbrev pub of_kind : ℕ → ErrorRecord
of_kind k = row 0 k 0 0 0 0 0 0

-- `of_operation k m i`: of an error of the kind `k` at the member `m` of the operation `i`
abbrev pub of_operation : ℕ → ℕ → ℕ → ErrorRecord
of_operation k m i = row 0 k m i 0 0 0 0

-- `capped n`: `n`, or the greatest `usize` if it is greater
abbrev pub capped : ℕ → ℕ
capped n = min n (2 ^ 64 - 1)

-- `at_token k position slash`: of an error of the kind `k` at the token after the slash at this offset
abbrev pub at_token : ℕ → ℕ → ℕ → ErrorRecord
at_token k position slash = row 0 k 0 0 position slash (capped (slash + 1)) 0

-- `with_length n r`, `with_member m i r`: the record `r` with other numbers
abbrev pub with_length : ℕ → ErrorRecord → ErrorRecord
with_length n r = row r.status r.kind r.member r.operation r.position r.slash r.offset n

abbrev pub with_member : ℕ → ℕ → ErrorRecord → ErrorRecord
with_member m i r = row r.status r.kind m i r.position r.slash r.offset r.length

-- `resolve_row e`: why a token selects no value
abbrev pub resolve_row : resolve.Error → ErrorRecord
resolve_row (resolve_error.FailedToParseIndex position offset source) = at_token number.KIND_NOT_AN_INDEX position offset
resolve_row (resolve_error.OutOfBounds position offset source) = at_token number.KIND_OUT_OF_BOUNDS position offset
resolve_row (resolve_error.NotFound position offset) = at_token number.KIND_NO_MEMBER position offset
resolve_row (resolve_error.Unreachable position offset) = at_token number.KIND_NO_CHILDREN position offset

-- `assign_row e`: why no value can be assigned at a token
abbrev pub assign_row : assign.Error → ErrorRecord
assign_row (assign_error.FailedToParseIndex position offset source) = at_token number.KIND_NOT_A_NEW_INDEX position offset
assign_row (assign_error.OutOfBounds position offset source) = at_token number.KIND_INDEX_ABOVE_LENGTH position offset

-- `member_number m`: the number of the member `m` of an operation
abbrev pub member_number : Member → ℕ
member_number member.Op = number.MEMBER_OP
member_number member.Path = number.MEMBER_PATH
member_number member.From = number.MEMBER_FROM
member_number member.Value = number.MEMBER_VALUE

-- `fault_number p`: that of the member with the pointer at fault, or 0 if none is
abbrev pub fault_number : Option PatchPointer → ℕ
fault_number None = 0
fault_number (Some pointer.From) = number.MEMBER_FROM
fault_number (Some pointer.Path) = number.MEMBER_PATH

-- `patch_row e m`: why an operation fails, and the number of the member at fault
abbrev pub patch_row : PatchError → ℕ → ErrorRecord
patch_row (patch_error.NoTarget i cause) m = with_member m i (resolve_row cause)
patch_row (patch_error.BadPlace i cause) m = with_member m i (assign_row cause)
patch_row (patch_error.MoveIntoSelf i) m = of_operation number.KIND_MOVE_INTO_SELF m i
patch_row (patch_error.TestFloat i) m = of_operation number.KIND_TEST_FLOAT m i
patch_row (patch_error.TestFailed i) m = of_operation number.KIND_TEST_FAILED m i

-- `parse_row e`: why a text is not a pointer, as far as that is known without the text. A `~` at fault is at its offset
abbrev pub parse_row : ParseError → ErrorRecord
parse_row parse_error.NoLeadingSlash = of_kind number.KIND_NO_LEADING_SLASH
parse_row (parse_error.InvalidEncoding offset source) =
    row 0 number.KIND_BAD_ESCAPE 0 0 0 offset (capped (offset + source.offset)) 0

-- `patch_document_row e`: why a document is not a patch
abbrev pub patch_document_row : PatchDocumentError → ErrorRecord
patch_document_row document_error.NotArray = of_kind number.KIND_NOT_AN_ARRAY
patch_document_row (document_error.NotObject i) = of_operation number.KIND_NOT_AN_OBJECT 0 i
patch_document_row (document_error.MissingMember i m) = of_operation number.KIND_NO_SUCH_MEMBER (member_number m) i
patch_document_row (document_error.NotString i m) = of_operation number.KIND_NOT_A_STRING (member_number m) i
patch_document_row (document_error.UnknownOp i) = of_operation number.KIND_UNKNOWN_OP number.MEMBER_OP i
patch_document_row (document_error.NotPointer i m cause) = with_member (member_number m) i (parse_row cause)

-- `slashes_before bytes offset`: how many slashes the `bytes` have before the offset
abbrev pub slashes_before : List ℕ → ℕ → ℕ
slashes_before bytes offset = count_by (λ b. b == 47) (take offset bytes)

-- `escape_length bytes tilde`: how many bytes an escape has that begins at an offset: 2, or 1 at the end of the `bytes`
abbrev pub escape_length : List ℕ → ℕ → ℕ
escape_length bytes tilde = min (length bytes - tilde) 2

-- `token_length bytes slash`: the length of the token after a slash of the pointer `bytes`, as it is written
abbrev pub token_length : List ℕ → ℕ → ℕ
token_length bytes slash = prefix_len (λ b. not (b == 47)) (drop (slash + 1) bytes)

-- `pointer_row e bytes`: why the `bytes` are not a pointer
abbrev pub pointer_row : ParseError → List ℕ → ErrorRecord
pointer_row parse_error.NoLeadingSlash bytes = parse_row parse_error.NoLeadingSlash
pointer_row (parse_error.InvalidEncoding offset source) bytes =
    row 0 number.KIND_BAD_ESCAPE 0 0 (slashes_before bytes offset) offset (capped (offset + source.offset))
    (escape_length bytes (capped (offset + source.offset)))

-- `at_offset k offset`: of an error of the kind `k` at this offset
abbrev pub at_offset : ℕ → ℕ → ErrorRecord
at_offset k offset = row 0 k 0 0 0 0 offset 0

-- `with_offset offset r`: the record `r` with another offset
abbrev pub with_offset : ℕ → ErrorRecord → ErrorRecord
with_offset offset r = row r.status r.kind r.member r.operation r.position r.slash offset r.length

-- `fragment_row e`: why a text is not the fragment of a pointer. The offset is that in the fragment, and the slash that in
-- the text which the fragment encodes
abbrev pub fragment_row : FragmentError → ErrorRecord
fragment_row fragment_error.NoHash = of_kind number.KIND_NO_HASH
fragment_row (fragment_error.BadByte offset) = at_offset number.KIND_BAD_BYTE offset
fragment_row (fragment_error.BadEscape offset) = at_offset number.KIND_BAD_PERCENT offset
fragment_row (fragment_error.NotUtf8 offset) = at_offset number.KIND_ENCODED_NOT_UTF8 offset
fragment_row (fragment_error.NotPointer offset cause) = with_offset offset (parse_row cause)

-- `rename_kind f`: the kind of the error `f` of a renaming
abbrev pub rename_kind : RenameError → ℕ
rename_kind rename.NotThere = number.KIND_NOTHING_THERE
rename_kind rename.NotAMember = number.KIND_NOT_A_MEMBER
rename_kind rename.KeyTaken = number.KIND_KEY_TAKEN

-- `argument_number a`: the number of the argument `a` of a call
abbrev pub argument_number : Argument → ℕ
argument_number argument.Pointer = number.ARGUMENT_POINTER
argument_number argument.Token = number.ARGUMENT_TOKEN
argument_number argument.Text = number.ARGUMENT_TEXT

-- `status_number e`: the status of a call that fails with `e`
abbrev pub status_number : CallError → ℕ
status_number (Memory e) = number.NO_MEMORY
status_number (NoRoom needed) = number.NO_ROOM
status_number NoDocument = number.NO_DOCUMENT
status_number (NotUtf8 a offset) = number.NOT_UTF8
status_number (NotJson offset) = number.NOT_JSON
status_number (NotExact l) = number.NOT_EXACT
status_number (NotPointer e) = number.NOT_POINTER
status_number NoToken = number.NO_TOKEN
status_number (Resolve e) = number.NOT_FOUND
status_number NotLocated = number.NOT_LOCATED
status_number (NoValue offset) = number.NO_VALUE
status_number OtherType = number.OTHER_TYPE
status_number NotFinite = number.BAD_ARGUMENT
status_number (Assign e) = number.NOT_ASSIGNED
status_number (NotPatch e) = number.NOT_PATCH
status_number (PatchFailed f) = number.PATCH_FAILED
status_number TooDeep = number.TOO_DEEP
status_number InverseTooDeep = number.TOO_DEEP
status_number TextTooDeep = number.TOO_DEEP
status_number (NotRenamed f) = number.NOT_RENAMED
status_number (OpenComment offset) = number.NOT_JSON
status_number NotInPlace = number.NOT_IN_PLACE
status_number (NotToml offset) = number.NOT_TOML
status_number TomlTooDeep = number.TOO_DEEP
status_number NotTomlValue = number.NOT_TOML_VALUE
status_number NoTomlText = number.NOT_TOML_VALUE
status_number OtherFormat = number.OTHER_FORMAT
status_number (NotFragment f) = number.NOT_FRAGMENT

-- `fields_of e bytes`: the record of the error `e` of a call with the pointer `bytes`, without its status
abbrev pub fields_of : CallError → List ℕ → ErrorRecord
fields_of (Memory e) bytes = no_error
fields_of (NoRoom needed) bytes = with_length needed no_error
fields_of NoDocument bytes = no_error
fields_of (NotUtf8 a offset) bytes = row 0 0 (argument_number a) 0 0 0 offset 0
fields_of (NotJson offset) bytes = row 0 0 0 0 0 0 offset 0
fields_of (NotExact l) bytes = row 0 0 0 0 0 0 (unwrap_or l.offset 0) l.length
fields_of (NotPointer e) bytes = pointer_row e bytes
fields_of NoToken bytes = no_error
fields_of (Resolve e) bytes = with_length (token_length bytes (resolve_offset_of e)) (resolve_row e)
fields_of NotLocated bytes = no_error
fields_of (NoValue offset) bytes = row 0 0 0 0 0 0 offset 0
fields_of OtherType bytes = no_error
fields_of NotFinite bytes = no_error
fields_of (Assign e) bytes = with_length (token_length bytes (assign_offset_of e)) (assign_row e)
fields_of (NotPatch e) bytes = patch_document_row e
fields_of (PatchFailed f) bytes = patch_row f.error (fault_number f.pointer)
fields_of TooDeep bytes = no_error
fields_of InverseTooDeep bytes = of_kind number.KIND_INVERSE_TOO_DEEP
fields_of TextTooDeep bytes = of_kind number.KIND_TEXT_TOO_DEEP
fields_of (NotRenamed f) bytes = of_kind (rename_kind f)
fields_of (OpenComment offset) bytes = row 0 number.KIND_OPEN_COMMENT 0 0 0 0 offset 0
fields_of NotInPlace bytes = no_error
fields_of (NotToml offset) bytes = row 0 0 0 0 0 0 offset 0
fields_of TomlTooDeep bytes = of_kind number.KIND_TOML_TOO_DEEP
fields_of NotTomlValue bytes = no_error
fields_of NoTomlText bytes = of_kind number.KIND_NO_TOML_TEXT
fields_of OtherFormat bytes = no_error
fields_of (NotFragment f) bytes = fragment_row f

-- `with_status s r`: the record `r` with the status `s`
abbrev pub with_status : ℕ → ErrorRecord → ErrorRecord
with_status s r = row s r.kind r.member r.operation r.position r.slash r.offset r.length

-- `record_of e bytes`: the record of the error `e` of a call with the pointer `bytes`
abbrev pub record_of : CallError → List ℕ → ErrorRecord
record_of e bytes = with_status (status_number e) (fields_of e bytes)
