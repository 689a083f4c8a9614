-- Lemmas on the value of bytes.
use Rattle.std.proofs.Common.{◌≡◌, ℕ, Bool, true, false, if◌then◌else◌, List, None, refl}
use Rattle.std.specs.Str.{IsUtf8, is_utf8}
use Rattle.std.proofs.lemmas.Str.{IsUtf8-from_is_utf8, is_utf8-from_IsUtf8}
use Rattle.serde_json.specs.Read.{read}
use Rattle.jsonptr_run_command.specs.JsonText.{json_of}

-- UTF-8 bytes have the value that their text parses to
pub json_of-utf8 : (bytes : List ℕ) → IsUtf8 bytes → json_of bytes ≡ read bytes
json_of-utf8 bytes u = rw (is_utf8-from_IsUtf8 bytes u)

none_either_way : (bytes : List ℕ) (b : Bool) → is_utf8 bytes ≡ b → (IsUtf8 bytes → read bytes ≡ None) → (if b then read bytes else None) ≡ None
none_either_way bytes true e h = h (IsUtf8-from_is_utf8 bytes e)
none_either_way bytes false e h = refl

-- bytes have no value if they are UTF-8 and do not parse
pub json_of-None : (bytes : List ℕ) → (IsUtf8 bytes → read bytes ≡ None) → json_of bytes ≡ None
json_of-None bytes h = none_either_way bytes (is_utf8 bytes) refl h
