-- The path at which an assignment stores its value.
use Rattle.std.specs.Prelude.{◌≡◌, ℕ, ◌≤◌, ◌≢◌, List, [], ◌∷◌, ◌++◌, Option, Some, None, IsTrue, codes}
use Rattle.jsonptr_grammar.specs.Text.{Text, dec}
use Rattle.jsonptr_tree.specs.Node.{key, place, Path, Label, an_object, an_array, a_leaf, NodeMap}
use Rattle.jsonptr_tree.specs.Following.{StopsAt, StopsBefore}
use Rattle.jsonptr_tree.specs.Expansion.{is_append_index}

-- `LandsFrom w l rest p left`: if following stops at the path `w` with the label `l`, before the
-- tokens `rest`, then the value lands at the path `p`, expanded by `left`. Without `rest`, that is
-- `w` itself. At an object it is a new member, at an array a new last element, and at a scalar the
-- scalar is replaced
abbrev pub LandsFrom : Path → Option Label → List Text → Path → List Text → Type 0
LandsFrom w l [] p left = (p ≡ w) × (left ≡ [])
LandsFrom w None (x ∷ rest) p left = ⊥
LandsFrom w (Some an_object) (x ∷ rest) p left = (p ≡ w ++ key x ∷ []) × (left ≡ rest)
LandsFrom w (Some (an_array len)) (x ∷ rest) p left =
    IsTrue (is_append_index len x) × (p ≡ w ++ place len ∷ []) × (left ≡ rest)
LandsFrom w (Some (a_leaf v)) (x ∷ rest) p left = (p ≡ w) × (left ≡ x ∷ rest)

-- `Lands n tokens p left`: assigning at `tokens` in the map `n` stores the value at the path `p`,
-- expanded by the tokens `left`
pub record Lands (n : NodeMap) (tokens : List Text) (p : Path) (left : List Text) : Type 0 where
  pub front : List Text
  pub path : Path
  pub rest : List Text
  pub stops : StopsAt n tokens front path rest
  pub lands : LandsFrom path (n path) rest p left

-- `LandsNowhere n tokens position offset len x`: assigning at `tokens` in `n` fails. Following
-- stops at an array of length `len`, before a token `x` that is neither `-` nor the decimal text of
-- a number up to `len`
pub record LandsNowhere (n : NodeMap) (tokens : List Text) (position offset len : ℕ)
    (x : Text) : Type 0 where
  pub stops : StopsBefore n tokens position offset (an_array len) x
  pub no_dash : x ≢ codes "-"
  pub no_place : (i : ℕ) → i ≤ len → x ≢ dec i
