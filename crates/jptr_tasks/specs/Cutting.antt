-- Runs over the parts of an input that is cut after a line feed.
use Rattle.std.specs.Prelude.{◌≡◌, ◌⊎◌, ℕ, ◌+◌, List, [], ◌∷◌, ◌++◌, codes, decimal}
use Rattle.jsonptr.specs.Text.{Text}
use Rattle.jsonptr_io.specs.Lines.{AreLines}
use Rattle.jptr_tasks.specs.LineResults.{LinesGive}
use Rattle.jptr_tasks.specs.declared.line.LineTask.{LineTask}

-- `EndsInLineFeed bytes`: `bytes` are empty, or end in a line feed
abbrev pub EndsInLineFeed : List ℕ → Type 0
EndsInLineFeed bytes = (bytes ≡ []) ⊎ ((front : List ℕ) × (bytes ≡ front ++ 10 ∷ []))

-- `InputGives run bytes out err`: for the lines of the input `bytes`, with the numbers from 1 on, `out` is printed and `err` is
-- reported
abbrev pub InputGives : LineTask → List ℕ → Text → Text → Type 0
InputGives run bytes out err = (ls : List Text) × AreLines bytes ls × LinesGive run 1 ls out err

-- `reports name k rs`: the text of the reports `rs` on the input that is called `name`. Each is the number of a line and a
-- message, and `k` is added to the number
abbrev pub reports : Text → ℕ → List (ℕ × Text) → Text
reports name k [] = []
reports name k (r ∷ rs) =
    (name ++ (codes ":" ++ (decimal (r.0 + k) ++ (codes ": " ++ (r.1 ++ 10 ∷ []))))) ++ reports name k rs

-- `IsShifted name k err later`: `err` and `later` are the same reports on the input that is called `name`, except that `k` is
-- added to each number in `later`
abbrev pub IsShifted : Text → ℕ → Text → Text → Type 0
IsShifted name k err later = (rs : List (ℕ × Text)) × (err ≡ reports name 0 rs) × (later ≡ reports name k rs)
