-- The document after a deletion.
use Rattle.std.specs.Prelude.{◌≡◌, ℕ, zero, suc, ◌-◌, List, [], ◌∷◌, ◌++◌, Option, Some, None, if◌then◌else◌}
use Rattle.jsonptr_grammar.specs.Text.{Text}
use Rattle.jsonptr_tree.specs.Node.{Step, key, place, Path, Label, an_array, NodeMap, sub, Names}
use Rattle.jsonptr_tree.specs.Put.{put, same_step}

-- `one_less l` is the label `l`, with a length that is lower by one if it is that of an array
abbrev pub one_less : Option Label → Option Label
one_less (Some (an_array len)) = Some (an_array (len - 1))
one_less l = l

-- `place_before i j` is the old index of the element that is at `j` once the element at `i` is
-- removed: `j` if it is less than `i`, and `j + 1` otherwise
abbrev pub place_before : ℕ → ℕ → ℕ
place_before zero j = suc j
place_before (suc i) zero = zero
place_before (suc i) (suc j) = suc (place_before i j)

-- `without_key k n` is the map `n` of an object, without the member under the key `k`
abbrev pub without_key : Text → NodeMap → NodeMap
without_key k n [] = n []
without_key k n (s ∷ p) = if same_step (key k) s then None else n (s ∷ p)

-- `without_place i n` is the map `n` of an array, without the element at the index `i`. Each later
-- element has an index that is lower by one
abbrev pub without_place : ℕ → NodeMap → NodeMap
without_place i n [] = one_less (n [])
without_place i n (key k ∷ p) = n (key k ∷ p)
without_place i n (place j ∷ p) = n (place (place_before i j) ∷ p)

-- `without_step s n` is the map `n`, without the child at the step `s`
abbrev pub without_step : Step → NodeMap → NodeMap
without_step (key k) n = without_key k n
without_step (place i) n = without_place i n

-- `Deletes n tokens blank m`: deleting at `tokens` turns the map `n` into `m`. Deleting the root
-- leaves `blank`. Any other node that is named is removed from its parent. If none is named,
-- nothing changes
pub record Deletes (n : NodeMap) (tokens : List Text) (blank m : NodeMap) : Type 0 where
  pub whole : tokens ≡ [] → m ≡ blank
  pub child : (w : Path) (s : Step)
      → Names n tokens (w ++ s ∷ [])
      → m ≡ put n w (without_step s (sub n w))
  pub none : ((w : Path) → Names n tokens w → ⊥) → m ≡ n
