-- A byte order mark at the start of a text.
use Rattle.std.specs.Prelude.{◌≡◌, ◌⊎◌, [], ◌∷◌, ℕ, List}

-- `byte_order_mark`: that of UTF-8
abbrev pub byte_order_mark : List ℕ
byte_order_mark = 239 ∷ 187 ∷ 191 ∷ []

-- `IsMark m`: `m` is empty or a byte order mark
abbrev pub IsMark : List ℕ → Type 0
IsMark m = (m ≡ []) ⊎ (m ≡ byte_order_mark)
