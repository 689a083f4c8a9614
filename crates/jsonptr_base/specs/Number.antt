-- The decimal texts of integers.
use Rattle.std.specs.Prelude.{◌+◌, ◌∷◌, ℤ, pos, negsuc}
use Rattle.jsonptr_grammar.specs.Text.{Text, dec}

-- `signed_dec z` is the decimal text of the integer `z`, with a `-` first if it is negative
abbrev pub signed_dec : ℤ → Text
signed_dec (pos n) = dec n
signed_dec (negsuc n) = 45 ∷ dec (n + 1)
