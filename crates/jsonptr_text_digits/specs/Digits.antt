-- Texts in which each number keeps its digits.
use Rattle.std.specs.Prelude.{◌≡◌, ℕ, List, [], ◌∷◌, ◌++◌, ⊤}
use Rattle.json.specs.Token.{Token, begin_object, end_object, begin_array, end_array, key, string, number, boolean, null, bad}
use Rattle.json.specs.Lex.{tokens}
use Rattle.jsonptr_text_digits.specs.Kept.{IsKeptNumber, IsLost}

-- `KeepsToken t`: the token `t` is no number, or it is kept
abbrev pub KeepsToken : Token → Type 0
KeepsToken begin_object = ⊤
KeepsToken end_object = ⊤
KeepsToken begin_array = ⊤
KeepsToken end_array = ⊤
KeepsToken (key s) = ⊤
KeepsToken (string s) = ⊤
KeepsToken (number s) = IsKeptNumber s
KeepsToken (boolean b) = ⊤
KeepsToken null = ⊤
KeepsToken bad = ⊤

-- `AreKept ts`: each number among the tokens `ts` is kept
abbrev pub AreKept : List Token → Type 0
AreKept [] = ⊤
AreKept (t ∷ ts) = KeepsToken t × AreKept ts

-- `KeepsDigits text`: each number of `text` is kept
abbrev pub KeepsDigits : List ℕ → Type 0
KeepsDigits text = AreKept (tokens text)

-- `FirstLost raw ts`: `raw` is the first number among the tokens `ts` that is lost
pub record FirstLost (raw : List ℕ) (ts : List Token) : Type 0 where
  pub before : List Token
  pub after : List Token
  pub split : ts ≡ before ++ number raw ∷ after
  pub kept : AreKept before
  pub lost : IsLost raw
