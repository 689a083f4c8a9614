-- Lines as a whole text.
use Rattle.std.specs.Prelude.{◌≡◌, ◌≢◌, ◌⊎◌, ℕ, List, [], ◌∷◌, ◌++◌, flat_map}

-- `broken ls`: the lines `ls`, with a line feed after each
abbrev pub broken : List (List ℕ) → List ℕ
broken ls = flat_map (λ l. l ++ 10 ∷ []) ls

-- `IsBroken bytes ls`: `bytes` are the lines `ls` with a line feed after each. The last one may lack it, if it is not empty
abbrev pub IsBroken : List ℕ → List (List ℕ) → Type 0
IsBroken bytes ls =
    (bytes ≡ broken ls)
    ⊎ ((front : List (List ℕ)) × (last : List ℕ)
    × (ls ≡ front ++ last ∷ []) × (last ≢ []) × (bytes ≡ broken front ++ last))
