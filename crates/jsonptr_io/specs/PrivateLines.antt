-- How a line break is removed, and lines in a row. Used only by private contracts.
use Rattle.std.specs.Prelude.{◌≡◌, ◌-◌, ℕ, List, [], ◌∷◌, ◌++◌, length, take, false, ⊤}
use Rattle.std.specs.Io.BufRead.{ends_with_byte}
use Rattle.jsonptr_io.specs.Lines.{IsOneLine}
use Rattle.jsonptr_io.specs.declared.read.Ending.{Ending}
use Rattle.jsonptr_io.specs.declared.read.Ending.TheVariants.{Break, Input, NoLine}

-- `CutsBreak old new ending`: `new` is the text `old` without the line feed at its end, if it has one
abbrev pub CutsBreak : List ℕ → List ℕ → Ending → Type 0
CutsBreak old new Break = (old ≡ new ++ 10 ∷ []) × (new ≡ take (length old - 1) old)
CutsBreak old new Input = (new ≡ old) × (ends_with_byte 10 old ≡ false)
CutsBreak old new NoLine = ⊥

-- `joined ls`: the lines `ls`, each with a line feed after it
abbrev pub joined : List (List ℕ) → List ℕ
joined [] = []
joined (l ∷ ls) = l ++ 10 ∷ joined ls

-- `AreAllLines ls`: each of `ls` is one line
abbrev pub AreAllLines : List (List ℕ) → Type 0
AreAllLines [] = ⊤
AreAllLines (l ∷ ls) = IsOneLine l × AreAllLines ls
