-- The lines of an input. A line ends in a line feed, the byte 10. The last one may end at the end of the input.
use Rattle.std.specs.Prelude.{◌≡◌, ◌≢◌, ◌⊎◌, ℕ, List, [], ◌∷◌, ◌++◌, Option, IfSome, All}
use Rattle.std.specs.Io.KnownBytes.{Consumes, IsAtEnd}
use Rattle.jsonptr_io.specs.declared.read.Ending.{Ending}
use Rattle.jsonptr_io.specs.declared.read.Ending.TheVariants.{Break, Input, NoLine}

-- `IsOneLine text`: `text` contains no line feed
abbrev pub IsOneLine : List ℕ → Type 0
IsOneLine text = All (λ b. b ≢ 10) text

-- `AreLines bytes ls`: `ls` are the lines of the input `bytes`
abbrev pub AreLines : List ℕ → List (List ℕ) → Type 0
AreLines bytes [] = bytes ≡ []
AreLines bytes (l ∷ ls) =
    IsOneLine l
    × (((rest : List ℕ) × (bytes ≡ l ++ 10 ∷ rest) × AreLines rest ls)
    ⊎ ((bytes ≡ l) × (l ≢ []) × (ls ≡ [])))

-- `IsNextLine old new l ending`: the line `l` is read, and ends so. `old` and `new` are the bytes that are left before and
-- after it, if they are known
abbrev pub IsNextLine : Option (List ℕ) → Option (List ℕ) → List ℕ → Ending → Type 0
IsNextLine old new l Break = IsOneLine l × Consumes old new (l ++ 10 ∷ [])
IsNextLine old new l Input = IsOneLine l × (l ≢ []) × Consumes old new l × IfSome old (λ bytes. bytes ≡ l)
IsNextLine old new l NoLine = IsAtEnd old × Consumes old new []
