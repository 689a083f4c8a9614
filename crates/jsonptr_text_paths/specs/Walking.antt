-- A walk over all nodes of a document.
use Rattle.std.specs.Prelude.{◌≡◌, ◌<◌, ◌⊎◌, ◌↔◌, ⊤, List, [], ◌∷◌, ◌++◌, Contains}
use Rattle.std.specs.Cmp.Lexicographic.{slice_cmp}
use Rattle.std.specs.Ordering.{nat_cmp}
use Rattle.std.specs.declared.cmp.Ordering.TheVariants.{Less}
use Rattle.jsonptr.specs.Text.{Text}
use Rattle.jsonptr.specs.Node.{Step, key, place, Path, NodeMap, Names}

-- `ChildBefore s t`: of two children of one node, the one at step `s` comes first. Elements are in the order of their
-- indices, and members in the order of the bytes of their keys
abbrev pub ChildBefore : Step → Step → Type 0
ChildBefore (key k) (key l) = slice_cmp nat_cmp k l ≡ Less
ChildBefore (key k) (place j) = ⊥
ChildBefore (place i) (key l) = ⊥
ChildBefore (place i) (place j) = i < j

-- `Before p q`: path `p` is before `q` in document order. A node comes before all nodes below it, and the nodes of
-- one child before those of the next
abbrev pub Before : Path → Path → Type 0
Before [] [] = ⊥
Before [] (t ∷ q) = ⊤
Before (s ∷ p) [] = ⊥
Before (s ∷ p) (t ∷ q) = ChildBefore s t ⊎ ((s ≡ t) × Before p q)

-- `IsWalk n lists`: the lists of tokens are those of the nodes of `n`, each once, in document order
pub record IsWalk (n : NodeMap) (lists : List (List Text)) : Type 0 where
  pub nodes : (ts : List Text) → Contains lists ts ↔ ((w : Path) × Names n ts w)
  pub once : (above below : List (List Text)) (ts : List Text)
      → lists ≡ above ++ ts ∷ below
      → Contains below ts → ⊥
  pub order : (above below : List (List Text)) (ts us : List Text) (p q : Path)
      → lists ≡ above ++ ts ∷ below
      → Contains below us
      → Names n ts p
      → Names n us q
      → Before p q
