-- Following a list of tokens into a document (RFC 6901, sections 4 and 7).
use Rattle.std.specs.Prelude.{◌≡◌, ℕ, ◌≤◌, List, [], ◌∷◌, ◌++◌, length, Some, IsSome}
use Rattle.jsonptr_grammar.specs.Text.{Text, text}
use Rattle.jsonptr_tree.specs.Node.{NodeMap, Label, Step, Path, NamesStep, Names, sub}

-- `Finds n tokens m`: `tokens` name a path of the map `n`, and `m` is the map of the subtree there
pub record Finds (n : NodeMap) (tokens : List Text) (m : NodeMap) : Type 0 where
  pub path : Path
  pub named : Names n tokens path
  pub below : m ≡ sub n path

-- `StopsAt n tokens front path rest`: `front` is the longest prefix of `tokens` that names a path
-- of `n`, `path` is that path, and `rest` are the tokens after `front`
pub record StopsAt (n : NodeMap) (tokens front : List Text) (path : Path)
    (rest : List Text) : Type 0 where
  pub split : tokens ≡ front ++ rest
  pub named : Names n front path
  pub longest : (longer after : List Text) (w : Path)
      → tokens ≡ longer ++ after
      → Names n longer w
      → length longer ≤ length front

-- `LacksStep n w x`: in the map `n`, the token `x` names no child of the node at the path `w`
abbrev pub LacksStep : NodeMap → Path → Text → Type 0
LacksStep n w x = (s : Step) → NamesStep (n w) x s → IsSome (n (w ++ s ∷ [])) → ⊥

-- `StopsBefore n tokens position offset label x`: following `tokens` in `n` stops at a node with
-- this label, before the token `x`. There are `position` tokens before `x`, and their text has
-- `offset` bytes
pub record StopsBefore (n : NodeMap) (tokens : List Text) (position offset : ℕ) (label : Label)
    (x : Text) : Type 0 where
  pub front : List Text
  pub path : Path
  pub rest : List Text
  pub stops : StopsAt n tokens front path (x ∷ rest)
  pub label_is : n path ≡ Some label
  pub position_is : position ≡ length front
  pub offset_is : offset ≡ length (text front)
