-- Pointers as bytes.
use Rattle.std.specs.Prelude.{◌≡◌, ◌++◌, ◌∷◌, [], IsUtf8, List, ℕ, length, slice_get, take, Some}
use Rattle.jsonptr.specs.Text.{Text, text}

-- `HasTokens bytes tokens`: `bytes` are the text of the pointer with these tokens. A text has at most one list of them
abbrev pub HasTokens : List ℕ → List Text → Type 0
HasTokens bytes tokens = text tokens ≡ bytes

-- `ParsesTo bytes tokens`: `bytes` are UTF-8, and the text of the pointer with these tokens
abbrev pub ParsesTo : List ℕ → List Text → Type 0
ParsesTo bytes tokens = IsUtf8 bytes × HasTokens bytes tokens

-- `HasCount bytes n`: the pointer `bytes` has `n` tokens
abbrev pub HasCount : List ℕ → ℕ → Type 0
HasCount bytes n = (tokens : List Text) × HasTokens bytes tokens × (n ≡ length tokens)

-- `HasToken bytes position token`: the pointer `bytes` has this decoded token at this position
abbrev pub HasToken : List ℕ → ℕ → Text → Type 0
HasToken bytes position token = (tokens : List Text) × HasTokens bytes tokens × (slice_get tokens position ≡ Some token)

-- `Extends bytes token longer`: `longer` is the text of the pointer `bytes` with one more token
abbrev pub Extends : List ℕ → Text → List ℕ → Type 0
Extends bytes token longer = (tokens : List Text) × HasTokens bytes tokens × HasTokens longer (tokens ++ token ∷ [])

-- `Shortens bytes n`: the first `n` of the `bytes` are the text of the pointer without its last token
abbrev pub Shortens : List ℕ → ℕ → Type 0
Shortens bytes n = (token : Text) × Extends (take n bytes) token bytes
