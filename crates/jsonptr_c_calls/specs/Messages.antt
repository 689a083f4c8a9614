-- The messages of errors.
use Rattle.std.specs.Prelude.{ℕ, ◌++◌, ◌^◌, ◌<◌, ◌==◌, ◌&&◌, ◌||◌, codes, decimal, if◌then◌else◌, unwrap_or}
use Rattle.jsonptr.specs.Assign.{assign_message}
use Rattle.jsonptr.specs.ParseError.{parse_message}
use Rattle.jsonptr.specs.Resolve.{resolve_message}
use Rattle.jsonptr.specs.Text.{Text}
use Rattle.jsonptr_patch.specs.declared.operation.PatchError.{PatchError}
use Rattle.jsonptr_patch.specs.declared.operation.PatchError.TheVariants as patch_error
use Rattle.jsonptr_patch_document.specs.Object.{member_key}
use Rattle.jsonptr_patch_document.specs.declared.error.PatchDocumentError.{PatchDocumentError}
use Rattle.jsonptr_patch_document.specs.declared.error.PatchDocumentError.TheVariants as document_error
use Rattle.jsonptr_text_step.specs.declared.rename.RenameError.{RenameError}
use Rattle.jsonptr_text_step.specs.declared.rename.RenameError.TheVariants as rename
use Rattle.jsonptr_fragment.specs.declared.error.FragmentError.{FragmentError}
use Rattle.jsonptr_fragment.specs.declared.error.FragmentError.TheVariants as fragment_error
use Rattle.jsonptr_c_calls.specs.declared.error_numbers.TheConstants as number
use Rattle.jsonptr_c_calls.specs.declared.call_error.CallError.TheVariants.{NotFinite}
use Rattle.jsonptr_c_calls.specs.declared.call_error.CallError.{CallError}
use Rattle.jsonptr_c_calls.specs.declared.call_error.CallError.TheVariants.{Memory, NoRoom, NoDocument, NotUtf8, NotJson, NotExact, NotPointer, NoToken, Resolve, NotLocated, NoValue, OtherType, Assign, NotPatch, PatchFailed, TooDeep, InverseTooDeep, TextTooDeep, NotRenamed, OpenComment, NotInPlace, NotToml, TomlTooDeep, NotTomlValue, NoTomlText, OtherFormat, NotFragment}
use Rattle.jsonptr_c_calls.specs.declared.error_numbers.ErrorRecord.{ErrorRecord}

-- `patch_message e`: the message of an operation that fails
abbrev pub patch_message : PatchError → Text
patch_message (patch_error.NoTarget i cause) =
    codes "patch failed at operation " ++ decimal i ++ codes ": " ++ resolve_message cause
patch_message (patch_error.BadPlace i cause) =
    codes "patch failed at operation " ++ decimal i ++ codes ": " ++ assign_message cause
patch_message (patch_error.MoveIntoSelf i) =
    codes "patch failed at operation " ++ decimal i ++ codes ": " ++ codes "from is a proper prefix of path"
patch_message (patch_error.TestFloat i) =
    codes "patch failed at operation " ++ decimal i ++ codes ": " ++ codes "a float cannot be tested"
patch_message (patch_error.TestFailed i) =
    codes "patch failed at operation " ++ decimal i ++ codes ": " ++ codes "test failed"

-- `patch_document_message e`: the message of a document that is not a patch
abbrev pub patch_document_message : PatchDocumentError → Text
patch_document_message document_error.NotArray = codes "not a JSON Patch document: " ++ codes "not an array"
patch_document_message (document_error.NotObject i) =
    codes "not a JSON Patch document: " ++ codes "operation " ++ decimal i ++ codes " is not an object"
patch_document_message (document_error.MissingMember i m) =
    codes "not a JSON Patch document: " ++ codes "operation " ++ decimal i ++ codes " has no member `" ++ member_key m
    ++ codes "`"
patch_document_message (document_error.NotString i m) =
    codes "not a JSON Patch document: " ++ codes "member `" ++ member_key m ++ codes "` of operation " ++ decimal i
    ++ codes " is not a string"
patch_document_message (document_error.UnknownOp i) =
    codes "not a JSON Patch document: " ++ codes "member `op` of operation " ++ decimal i
    ++ codes " is not an operation"
patch_document_message (document_error.NotPointer i m cause) =
    codes "not a JSON Patch document: " ++ codes "member `" ++ member_key m ++ codes "` of operation " ++ decimal i
    ++ codes ": " ++ parse_message cause

-- `rename_message f`: the message of a renaming that fails
abbrev pub rename_message : RenameError → Text
rename_message rename.NotThere = codes "rename failed: pointer resolves to nothing"
rename_message rename.NotAMember = codes "rename failed: value is not a member of an object"
rename_message rename.KeyTaken = codes "rename failed: another member has the key"

-- `fragment_message f`: the message of a text that is not the fragment of a pointer
abbrev pub fragment_message : FragmentError → Text
fragment_message fragment_error.NoHash =
    codes "not a URI fragment of a JSON Pointer: " ++ codes "does not start with `#`"
fragment_message (fragment_error.BadByte offset) =
    codes "not a URI fragment of a JSON Pointer: " ++ codes "a byte that must be percent-encoded at byte "
    ++ decimal offset
fragment_message (fragment_error.BadEscape offset) =
    codes "not a URI fragment of a JSON Pointer: " ++ codes "`%` without two hexadecimal digits at byte "
    ++ decimal offset
fragment_message (fragment_error.NotUtf8 offset) =
    codes "not a URI fragment of a JSON Pointer: " ++ codes "not UTF-8 at byte " ++ decimal offset
fragment_message (fragment_error.NotPointer offset cause) =
    codes "not a URI fragment of a JSON Pointer: " ++ parse_message cause ++ codes ", at byte " ++ decimal offset

-- `error_message e`: the message of the error `e`. Of an error of the library it is the text that this displays
abbrev pub error_message : CallError → Text
error_message (Memory e) = codes "out of memory"
error_message (NoRoom needed) = codes "the buffer is too short"
error_message NoDocument = codes "the handle holds no document"
error_message (NotUtf8 a offset) = codes "text is not UTF-8"
error_message (NotJson offset) = codes "text is not JSON"
error_message (NotExact l) =
    codes "the number at offset " ++ decimal (unwrap_or l.offset 0) ++ codes " loses digits"
error_message (NotPointer e) = parse_message e
error_message NoToken = codes "the pointer has no such token"
error_message (Resolve e) = resolve_message e
error_message NotLocated = codes "value cannot be located in the text"
error_message (NoValue offset) = codes "no value is at offset " ++ decimal offset
error_message OtherType = codes "the value is of another type"
error_message NotFinite = codes "an argument is NULL, too long, not finite or passed twice, or a flag is unknown"
error_message (Assign e) = assign_message e
error_message (NotPatch e) = patch_document_message e
error_message (PatchFailed f) = patch_message f.error
error_message TooDeep = codes "the document could nest deeper than 10,127"
error_message InverseTooDeep = codes "the inverse of the patch would nest deeper than 127"
error_message TextTooDeep = codes "the text would nest deeper than 127"
error_message (NotRenamed f) = rename_message f
error_message (OpenComment offset) = codes "comment is not closed"
error_message NotInPlace = codes "the edit is possible, but not in place"
error_message (NotToml offset) = codes "text is not TOML"
error_message TomlTooDeep = codes "values of the TOML document nest, or would nest, deeper than 80"
error_message NotTomlValue = codes "the value is null or an integer that TOML has not, or contains one"
error_message NoTomlText = codes "the document would have no TOML text"
error_message OtherFormat = codes "the call does not work on texts of this format"
error_message (NotFragment f) = fragment_message f

-- ---- The same by the numbers of a record

-- `fixed_message status`: the message of a status that has only one
abbrev pub fixed_message : ℕ → Text
fixed_message status =
    if status == number.OK then codes "no error"
    else if status == number.NO_MEMORY then codes "out of memory"
    else if status == number.NO_ROOM then codes "the buffer is too short"
    else if status == number.BAD_ARGUMENT then codes "an argument is NULL, too long, not finite or passed twice, or a flag is unknown"
    else if status == number.NO_DOCUMENT then codes "the handle holds no document"
    else if status == number.NOT_UTF8 then codes "text is not UTF-8"
    else if status == number.NOT_JSON then codes "text is not JSON"
    else if status == number.NO_TOKEN then codes "the pointer has no such token"
    else if status == number.OTHER_TYPE then codes "the value is of another type"
    else if status == number.NOT_LOCATED then codes "value cannot be located in the text"
    else if status == number.TOO_DEEP then codes "the document could nest deeper than 10,127"
    else if status == number.NOT_IN_PLACE then codes "the edit is possible, but not in place"
    else if status == number.NOT_TOML then codes "text is not TOML"
    else if status == number.NOT_TOML_VALUE then codes "the value is null or an integer that TOML has not, or contains one"
    else if status == number.OTHER_FORMAT then codes "the call does not work on texts of this format"
    else codes "unknown status"

-- `fault_message kind slash`: what is at fault with a pointer or with an operation, by the kind and the slash
abbrev pub fault_message : ℕ → ℕ → Text
fault_message kind slash =
    if kind == number.KIND_NO_LEADING_SLASH
    then codes "json pointer failed to parse; does not start with a slash ('/') and is not empty"
    else if kind == number.KIND_BAD_ESCAPE
    then codes "json pointer failed to parse; the first token in the partial-pointer starting at offset "
    ++ decimal slash ++ codes " is malformed"
    else if kind == number.KIND_NOT_AN_INDEX
    then codes "resolve failed: json pointer token at offset " ++ decimal slash ++ codes " failed to parse as an index"
    else if kind == number.KIND_OUT_OF_BOUNDS
    then codes "resolve failed: json pointer token at offset " ++ decimal slash ++ codes " is out of bounds"
    else if kind == number.KIND_NO_MEMBER
    then codes "resolve failed: json pointer token at " ++ decimal slash ++ codes " was not found in value"
    else if kind == number.KIND_NO_CHILDREN
    then codes "resolve failed: json pointer token at " ++ decimal slash
    ++ codes " is unreachable (previous token resolved to a scalar or null value)"
    else if kind == number.KIND_NOT_A_NEW_INDEX
    then codes "assign failed: json pointer token at offset " ++ decimal slash
    ++ codes " failed to parse as an array index"
    else if kind == number.KIND_INDEX_ABOVE_LENGTH
    then codes "assign failed: json pointer token at offset " ++ decimal slash ++ codes " is out of bounds"
    else if kind == number.KIND_MOVE_INTO_SELF then codes "from is a proper prefix of path"
    else if kind == number.KIND_TEST_FLOAT then codes "a float cannot be tested"
    else if kind == number.KIND_TEST_FAILED then codes "test failed"
    else if kind == number.KIND_NOTHING_THERE then codes "rename failed: pointer resolves to nothing"
    else if kind == number.KIND_NOT_A_MEMBER then codes "rename failed: value is not a member of an object"
    else if kind == number.KIND_KEY_TAKEN then codes "rename failed: another member has the key"
    else codes "unknown kind"

-- `member_name m`: the key of the member of an operation with the number `m`
abbrev pub member_name : ℕ → Text
member_name m =
    if m == number.MEMBER_OP then codes "op"
    else if m == number.MEMBER_PATH then codes "path"
    else if m == number.MEMBER_FROM then codes "from"
    else codes "value"

-- `document_message r`: why a document is not a patch, by the record `r`
abbrev pub document_message : ErrorRecord → Text
document_message r =
    if r.kind == number.KIND_NOT_AN_ARRAY then codes "not an array"
    else if r.kind == number.KIND_NOT_AN_OBJECT
    then codes "operation " ++ decimal r.operation ++ codes " is not an object"
    else if r.kind == number.KIND_NO_SUCH_MEMBER
    then codes "operation " ++ decimal r.operation ++ codes " has no member `" ++ member_name r.member ++ codes "`"
    else if r.kind == number.KIND_NOT_A_STRING
    then codes "member `" ++ member_name r.member ++ codes "` of operation " ++ decimal r.operation
    ++ codes " is not a string"
    else if r.kind == number.KIND_UNKNOWN_OP
    then codes "member `op` of operation " ++ decimal r.operation ++ codes " is not an operation"
    else if (r.kind == number.KIND_NO_LEADING_SLASH) || (r.kind == number.KIND_BAD_ESCAPE)
    then codes "member `" ++ member_name r.member ++ codes "` of operation " ++ decimal r.operation ++ codes ": "
    ++ fault_message r.kind r.slash
    else codes "unknown kind"

-- `fragment_fault r`: why a text is not the fragment of a pointer, by the record `r`
abbrev pub fragment_fault : ErrorRecord → Text
fragment_fault r =
    if r.kind == number.KIND_NO_HASH then codes "does not start with `#`"
    else if r.kind == number.KIND_BAD_BYTE
    then codes "a byte that must be percent-encoded at byte " ++ decimal r.offset
    else if r.kind == number.KIND_BAD_PERCENT
    then codes "`%` without two hexadecimal digits at byte " ++ decimal r.offset
    else if r.kind == number.KIND_ENCODED_NOT_UTF8 then codes "not UTF-8 at byte " ++ decimal r.offset
    else if (r.kind == number.KIND_NO_LEADING_SLASH) || (r.kind == number.KIND_BAD_ESCAPE)
    then fault_message r.kind r.slash ++ codes ", at byte " ++ decimal r.offset
    else codes "unknown kind"

-- `message_of r`: the message of the record `r`
abbrev pub message_of : ErrorRecord → Text
message_of r =
    if (r.status == number.NOT_POINTER) || ((r.status == number.NOT_FOUND)
    || ((r.status == number.NOT_ASSIGNED) || (r.status == number.NOT_RENAMED)))
    then fault_message r.kind r.slash
    else if r.status == number.NOT_PATCH then codes "not a JSON Patch document: " ++ document_message r
    else if r.status == number.PATCH_FAILED
    then codes "patch failed at operation " ++ decimal r.operation ++ codes ": " ++ fault_message r.kind r.slash
    else if r.status == number.NOT_FRAGMENT then codes "not a URI fragment of a JSON Pointer: " ++ fragment_fault r
    else if r.status == number.NOT_EXACT
    then codes "the number at offset " ++ decimal r.offset ++ codes " loses digits"
    else if r.status == number.NO_VALUE then codes "no value is at offset " ++ decimal r.offset
    else if (r.status == number.TOO_DEEP) && (r.kind == number.KIND_INVERSE_TOO_DEEP)
    then codes "the inverse of the patch would nest deeper than 127"
    else if (r.status == number.TOO_DEEP) && (r.kind == number.KIND_TEXT_TOO_DEEP)
    then codes "the text would nest deeper than 127"
    else if (r.status == number.TOO_DEEP) && (r.kind == number.KIND_TOML_TOO_DEEP)
    then codes "values of the TOML document nest, or would nest, deeper than 80"
    else if (r.status == number.NOT_TOML_VALUE) && (r.kind == number.KIND_NO_TOML_TEXT)
    then codes "the document would have no TOML text"
    else if (r.status == number.NOT_JSON) && (r.kind == number.KIND_OPEN_COMMENT) then codes "comment is not closed"
    else fixed_message r.status

-- `HasMessageNumbers r`: the numbers of the record `r` that are in messages are those of an `u64`
abbrev pub HasMessageNumbers : ErrorRecord → Type 0
HasMessageNumbers r = (r.operation < 2 ^ 64) × (r.slash < 2 ^ 64) × (r.offset < 2 ^ 64)

-- `message_room`: no message is longer
abbrev pub message_room : ℕ
message_room = 200
