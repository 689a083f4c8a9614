-- The pointer at fault of a document that is not a patch, and its labels.
use Rattle.std.specs.Prelude.{ℕ, List, Option, None, option_and_then}
use Rattle.serde_json.specs.Data.{Data}
use Rattle.serde_json.specs.Find.{at, get, as_str}
use Rattle.jsonptr.specs.Diagnostic.{Mark, IsNoLabel}
use Rattle.jsonptr.specs.ParseError.{IsParseErrorLabelled}
use Rattle.jsonptr.specs.Text.{Text}
use Rattle.jsonptr_patch_document.specs.Object.{member_key}
use Rattle.jsonptr_patch_document.specs.declared.error.PatchDocumentError.{PatchDocumentError}
use Rattle.jsonptr_patch_document.specs.declared.error.PatchDocumentError.TheVariants.{NotArray, NotObject, MissingMember, NotString, UnknownOp, NotPointer}

-- `faulty_text d e`: the text in the document `d` that `e` reports not to be a pointer. Other errors report none
abbrev pub faulty_text : Data → PatchDocumentError → Option Text
faulty_text d NotArray = None
faulty_text d (NotObject i) = None
faulty_text d (MissingMember i m) = None
faulty_text d (NotString i m) = None
faulty_text d (UnknownOp i) = None
faulty_text d (NotPointer i m cause) = option_and_then as_str (option_and_then (get (member_key m)) (at i d))

-- `IsPatchDocumentErrorLabelled e len labels`: `labels` are those of `e` on a text of `len` bytes: those of the error of
-- the pointer, or none
abbrev pub IsPatchDocumentErrorLabelled : PatchDocumentError → ℕ → Option (List Mark) → Type 0
IsPatchDocumentErrorLabelled NotArray len labels = IsNoLabel labels
IsPatchDocumentErrorLabelled (NotObject i) len labels = IsNoLabel labels
IsPatchDocumentErrorLabelled (MissingMember i m) len labels = IsNoLabel labels
IsPatchDocumentErrorLabelled (NotString i m) len labels = IsNoLabel labels
IsPatchDocumentErrorLabelled (UnknownOp i) len labels = IsNoLabel labels
IsPatchDocumentErrorLabelled (NotPointer i m cause) len labels = IsParseErrorLabelled cause len labels
