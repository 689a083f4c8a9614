-- Words of private clauses: the text of a child that is cut around its value.
use Rattle.std.specs.Prelude.{◌≡◌, ℕ, List, [], ◌++◌, Option, Some, None}
use Rattle.serde_json.specs.Data.{Data, string}
use Rattle.jsonptr_text_check.specs.Child.{IsValueText, IsOneChild, value_part}
use Rattle.jsonptr_text_piece.specs.Spacing.{IsSpaced}

-- `IsNameIf k t`: `t` is the name of a member with the key `k` and a colon, or empty if there is no key
abbrev pub IsNameIf : Option (List ℕ) → List ℕ → Type 0
IsNameIf None t = t ≡ []
IsNameIf (Some k) t = (name colon : List ℕ) × (t ≡ name ++ colon) × IsValueText (string k) name × IsSpaced 58 colon

-- `IsCutChild k e t value trail`: `t` is a text of one child with the value `e`, and `value` is the text of it, before `trail`
pub record IsCutChild (k : Option (List ℕ)) (e : Data) (t value trail : List ℕ) : Type 0 where
  pub one : IsOneChild k e t
  pub value_is : value_part k e t one ≡ value
  pub trail_is : one.trail ≡ trail
