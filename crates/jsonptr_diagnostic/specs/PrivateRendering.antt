-- How a report is drawn, step by step.
--
-- Used only by private contracts; no public contract depends on this file.
use Rattle.std.specs.Prelude.{◌≡◌, ℕ, ◌+◌, ◌++◌, Bool, min, max, nat_le, nat_lt, List, encode_utf8_all}
use Rattle.jsonptr_grammar.specs.Text.{Text}
use Rattle.jsonptr_diagnostic.specs.declared.rendering.Part.{Part}
use Rattle.jsonptr_diagnostic.specs.declared.rendering.Part.TheVariants.{Before, Under}

-- `AppendsCharacters cs a b`: the text `b` is `a` with the characters `cs` appended
abbrev pub AppendsCharacters : List ℕ → Text → Text → Type 0
AppendsCharacters cs a b = b ≡ a ++ encode_utf8_all cs

-- `is_in_part part b e`: a character that starts at the offset `b` and ends at `e` is in `part`
abbrev pub is_in_part : Part → ℕ → ℕ → Bool
is_in_part (Before offset) b e = nat_le e offset
is_in_part (Under offset len) b e = nat_lt (max b offset) (min e (offset + len))
