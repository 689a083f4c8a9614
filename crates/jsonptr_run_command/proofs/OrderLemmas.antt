-- The keys of each object of the value of some bytes are sorted.
use Rattle.std.proofs.Common.{◌≡◌, ℕ, List, Bool, true, false, if◌then◌else◌, Some, None}
use Rattle.std.specs.Str.{is_utf8}
use Rattle.serde_json.specs.Data.{Data}
use Rattle.serde_json.specs.Read.{read}
use Rattle.jsonptr.specs.Json.{HasSortedKeys}
use Rattle.jsonptr.proofs.Calling.{ascends_read}
use Rattle.jsonptr_run_command.specs.JsonText.{json_of}

-- the keys of the value of some bytes are sorted
pub ascends_json : (bytes : List ℕ) (d : Data) → json_of bytes ≡ Some d → HasSortedKeys d
ascends_json bytes d e = by_test (is_utf8 bytes) e
  where
    by_test : (b : Bool) → (if b then read bytes else None) ≡ Some d → HasSortedKeys d
    by_test true h = ascends_read bytes d h
    by_test false h = let no : ⊥ = cc in absurd no
