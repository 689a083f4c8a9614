-- Labels, as contracts see them.
use Rattle.std.specs.Prelude.{◌≡◌, ◌==◌, ◌&&◌, Bool, ℕ, [], ◌∷◌, List, Option, Some, None, Vec}
use Rattle.std.specs.Str.{bytes_eq}
use Rattle.std.specs.Global.{Global}
use Rattle.jsonptr_grammar.specs.Text.{Text}

-- `Mark`: a label, with its message and its span: the offset and the length in bytes
pub record Mark : Type 0 where
  pub text : Text
  pub offset : ℕ
  pub len : ℕ

-- `mark_eq a b`: the labels `a` and `b` have the same message, offset and length
abbrev pub mark_eq : Mark → Mark → Bool
mark_eq a b = bytes_eq a.text b.text && (a.offset == b.offset) && (a.len == b.len)

-- `listed labels` are the labels of a result, in order
abbrev pub listed : Option (Vec Mark Global) → Option (List Mark)
listed (Some labels) = Some labels.items
listed None = None

-- `IsOneLabel words o n labels`: `labels` is one label, with the message `words` on the `n` bytes
-- from the offset `o` on
abbrev pub IsOneLabel : Text → ℕ → ℕ → Option (List Mark) → Type 0
IsOneLabel words o n labels = labels ≡ Some (record { text = words; offset = o; len = n } ∷ [])

-- `IsNoLabel labels`: there are no labels
abbrev pub IsNoLabel : Option (List Mark) → Type 0
IsNoLabel labels = labels ≡ None
