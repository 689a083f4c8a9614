-- The text of a child of an array or an object, and what is beside it.
use Rattle.std.specs.Prelude.{◌≡◌, ◌⊎◌, ℕ, List, ◌++◌, Option, Some, None, ⊤}
use Rattle.serde_json.specs.Data.{Data, string}
use Rattle.serde_json.specs.Read.{read}
use Rattle.jsonptr_text_piece.specs.Spacing.{IsBlank, IsSpaced, IsTrimmed}

-- `IsValueText e t`: `t` is a text of the value `e`, without white space around it
pub record IsValueText (e : Data) (t : List ℕ) : Type 0 where
  pub reads : read t ≡ Some e
  pub trimmed : IsTrimmed t

-- `IsMemberText k e t`: `t` is a text of a member: its name, which reads as the key `k`, a colon with white space around it,
-- and its value `e`
pub record IsMemberText (k : List ℕ) (e : Data) (t : List ℕ) : Type 0 where
  pub name : List ℕ
  pub colon : List ℕ
  pub value : List ℕ
  pub is : t ≡ name ++ (colon ++ value)
  pub named : IsValueText (string k) name
  pub spaced : IsSpaced 58 colon
  pub whole : IsValueText e value

-- `IsChildText k e t`: `t` is a text of a member with the key `k`, or of an element if there is no key, with the value `e`
abbrev pub IsChildText : Option (List ℕ) → Data → List ℕ → Type 0
IsChildText None e t = IsValueText e t
IsChildText (Some k) e t = IsMemberText k e t

-- `child_value k e t h`: the text of the value in the text `t` of a child
abbrev pub child_value : (k : Option (List ℕ)) (e : Data) (t : List ℕ) → IsChildText k e t → List ℕ
child_value None e t h = t
child_value (Some k) e t h = h.value

-- `HaveOneComma lead trail`: both texts are white space, and one of them may have one comma
abbrev pub HaveOneComma : List ℕ → List ℕ → Type 0
HaveOneComma lead trail =
    (IsBlank lead × IsBlank trail) ⊎ ((IsSpaced 44 lead × IsBlank trail) ⊎ (IsBlank lead × IsSpaced 44 trail))

-- `IsOneChild k e t`: `t` is a text of one child with the value `e`, with at most one comma and white space beside it
pub record IsOneChild (k : Option (List ℕ)) (e : Data) (t : List ℕ) : Type 0 where
  pub lead : List ℕ
  pub child : List ℕ
  pub trail : List ℕ
  pub is : t ≡ lead ++ (child ++ trail)
  pub whole : IsChildText k e child
  pub beside : HaveOneComma lead trail

-- `value_part k e t h`: the text of its value
abbrev pub value_part : (k : Option (List ℕ)) (e : Data) (t : List ℕ) → IsOneChild k e t → List ℕ
value_part k e t h = child_value k e h.child h.whole

-- `IsReadAs given e`: the text reads as the value `e`, if one is given
abbrev pub IsReadAs : Option (List ℕ) → Data → Type 0
IsReadAs None e = ⊤
IsReadAs (Some t) e = read t ≡ Some e
