-- Resolving a pointer in a text.
use Rattle.std.specs.Prelude.{◌≡◌, ℕ, List, Some, None, ⊤}
use Rattle.std.specs.Str.{IsUtf8}
use Rattle.serde_json.specs.Data.{Data}
use Rattle.serde_json.specs.Read.{read}
use Rattle.jsonptr.specs.Text.{Text}
use Rattle.jsonptr.specs.Json.{nodes, FindsValue}
use Rattle.jsonptr.specs.Resolve.{Refuses}
use Rattle.jsonptr.specs.declared.resolve.Error.{Error}
use Rattle.jsonptr_value.specs.declared.from_text.ReadError.{ReadError}
use Rattle.jsonptr_value.specs.declared.from_text.ReadError.TheVariants as unread
use Rattle.jsonptr_text_resolve.specs.declared.resolve.InTextError.{InTextError}
use Rattle.jsonptr_text_resolve.specs.declared.resolve.InTextError.TheVariants.{NotJson, Resolve, Memory}

-- `FindsInText text tokens v`: `serde_json` reads `text` as a document in which `tokens` identify the value `v`
abbrev pub FindsInText : Text → List Text → Data → Type 0
FindsInText text tokens v = (d : Data) × (read text ≡ Some d) × FindsValue d tokens v

-- `RefusesInText text tokens e`: `serde_json` reads `text` as a document in which evaluating `tokens` fails with `e`
abbrev pub RefusesInText : Text → List Text → Error → Type 0
RefusesInText text tokens e = (d : Data) × (read text ≡ Some d) × Refuses (nodes d) tokens e

-- `IsInTextError text tokens e`: `e` is why resolving `tokens` in `text` fails, unless an allocation failed
abbrev pub IsInTextError : Text → List Text → InTextError → Type 0
IsInTextError text tokens NotJson = read text ≡ None
IsInTextError text tokens (Resolve e) = RefusesInText text tokens e
IsInTextError text tokens (Memory e) = ⊤

-- `IsInSliceError bytes tokens e`: the same for `bytes`, which are not JSON if they are not UTF-8
abbrev pub IsInSliceError : List ℕ → List Text → InTextError → Type 0
IsInSliceError bytes tokens NotJson = IsUtf8 bytes → read bytes ≡ None
IsInSliceError bytes tokens (Resolve e) = IsUtf8 bytes × RefusesInText bytes tokens e
IsInSliceError bytes tokens (Memory e) = ⊤

-- `in_text_of_read e`: the error of resolving in a text that is not read because of `e`
abbrev pub in_text_of_read : ReadError → InTextError
in_text_of_read unread.NotJson = NotJson
in_text_of_read (unread.Memory e) = Memory e
