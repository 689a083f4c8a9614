-- Texts with the same tokens.
use Rattle.std.specs.Prelude.{◌≡◌, ℕ, List, ◌++◌, Option, Some, None, ⊤}
use Rattle.json.specs.Lex.{tokens}
use Rattle.json.specs.Token.{Token}
use Rattle.jsonptr_text_piece.specs.Spacing.{IsTrimmed}

-- `HoldsTokens given t`: a part of the text `t` has the tokens of the text `given`, one for one. It has no white space around it
pub record HoldsTokens (given t : List ℕ) : Type 0 where
  pub before : List ℕ
  pub part : List ℕ
  pub after : List ℕ
  pub parts : t ≡ before ++ (part ++ after)
  pub same : tokens part ≡ tokens given
  pub trimmed : IsTrimmed part

-- `HasTokensIf given t`: if a text is given, the text `t` has its tokens, one for one
abbrev pub HasTokensIf : Option (List ℕ) → List ℕ → Type 0
HasTokensIf None t = ⊤
HasTokensIf (Some given) t = tokens t ≡ tokens given

-- `AreAlike old new old2 new2`: the tokens `old` and `old2` begin with the same ones, and go on with `new` and `new2`
abbrev pub AreAlike : List Token → List Token → List Token → List Token → Type 0
AreAlike old new old2 new2 = (used : List Token) × (old ≡ used ++ new) × (old2 ≡ used ++ new2)
