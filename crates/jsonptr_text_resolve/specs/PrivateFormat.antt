-- Words of private clauses: tokens at which a text stops to be JSON.
use Rattle.std.specs.Prelude.{◌≡◌, ℕ, List, [], ◌∷◌, String, Option, Some, None, string_bytes, ⊤}
use Rattle.std.specs.declared.alloc.Global.{Global}
use Rattle.json.specs.Lex.{tokens}
use Rattle.json.specs.Token.{Token, begin_object, end_object, begin_array, end_array, key, string, number, boolean, null, bad}

-- `HasBad ts`: one of the tokens `ts` is `bad`
abbrev pub HasBad : List Token → Type 0
HasBad [] = ⊥
HasBad (begin_object ∷ ts) = HasBad ts
HasBad (end_object ∷ ts) = HasBad ts
HasBad (begin_array ∷ ts) = HasBad ts
HasBad (end_array ∷ ts) = HasBad ts
HasBad (key s ∷ ts) = HasBad ts
HasBad (string s ∷ ts) = HasBad ts
HasBad (number s ∷ ts) = HasBad ts
HasBad (boolean b ∷ ts) = HasBad ts
HasBad (null ∷ ts) = HasBad ts
HasBad (bad ∷ ts) = ⊤

-- `IsWritten layout ts o`: `o` is a text of the tokens `ts` in this layout, with the same tokens, or there is none and one of
-- `ts` is bad
abbrev pub IsWritten : (List Token → List ℕ) → List Token → Option (String Global) → Type 0
IsWritten layout ts None = HasBad ts
IsWritten layout ts (Some s) = (string_bytes s ≡ layout ts) × (tokens (layout ts) ≡ ts)
