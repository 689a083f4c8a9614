-- Pointers that have no parent in common. Used only by private contracts.
use Rattle.std.specs.Prelude.{List}
use Rattle.jsonptr.specs.Text.{Text}
use Rattle.jptr_tasks.specs.Transfers.{AreSiblings}

-- `HasNoSibling fs ps`: the tokens `fs` and `ps` have no parent, or not the same one
abbrev pub HasNoSibling : List Text → List Text → Type 0
HasNoSibling fs ps = (front : List Text) (y : Text) → AreSiblings fs ps front y → ⊥
