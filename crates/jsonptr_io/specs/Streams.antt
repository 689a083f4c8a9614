-- What is done to a stream whose bytes may be unknown.
use Rattle.std.specs.Prelude.{ℕ, List, take, Option, Some, None}
use Rattle.std.specs.Io.KnownBytes.{Appends, Consumes}

-- `ForInput known P`: `P` holds of the known bytes, or of some bytes if they are unknown
abbrev pub ForInput : Option (List ℕ) → (List ℕ → Type 0) → Type 0
ForInput None P = (bytes : List ℕ) × P bytes
ForInput (Some bytes) P = P bytes

-- `ReadsSome old new`: some bytes are removed from the start of the known bytes
abbrev pub ReadsSome : Option (List ℕ) → Option (List ℕ) → Type 0
ReadsSome old new = (bytes : List ℕ) × Consumes old new bytes

-- `AppendsPrefix old new bytes`: a prefix of `bytes` is appended to the known bytes
abbrev pub AppendsPrefix : Option (List ℕ) → Option (List ℕ) → List ℕ → Type 0
AppendsPrefix old new bytes = (n : ℕ) × Appends old new (take n bytes)
