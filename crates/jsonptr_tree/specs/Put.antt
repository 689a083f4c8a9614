-- A document with another one put at a path.
use Rattle.std.specs.Prelude.{◌≡◌, ℕ, zero, suc, Bool, true, false, [], ◌∷◌, ◌++◌, Option, Some, None, if◌then◌else◌}
use Rattle.std.specs.Str.{bytes_eq}
use Rattle.jsonptr_tree.specs.Node.{Step, key, place, Path, Label, NodeMap}

-- `GoesThrough p w`: the path `p` begins with the path `w`
abbrev pub GoesThrough : Path → Path → Type 0
GoesThrough p w = (q : Path) × (p ≡ w ++ q)

-- `same_place i j`: the numbers `i` and `j` are equal
abbrev pub same_place : ℕ → ℕ → Bool
same_place zero zero = true
same_place zero (suc j) = false
same_place (suc i) zero = false
same_place (suc i) (suc j) = same_place i j

-- `same_step s t`: the steps `s` and `t` are equal
abbrev pub same_step : Step → Step → Bool
same_step (key k) (key l) = bytes_eq k l
same_step (key k) (place j) = false
same_step (place i) (key l) = false
same_step (place i) (place j) = same_place i j

-- `rest_after w p` is the rest of the path `p` after its prefix `w`, and `None` if `w` is not a
-- prefix of it
abbrev pub rest_after : Path → Path → Option Path
rest_after [] p = Some p
rest_after (s ∷ w) [] = None
rest_after (s ∷ w) (t ∷ p) = if same_step s t then rest_after w p else None

-- `label_or rest v l` is the label of the map `v` at the path `rest`, and the label `l` for `None`
abbrev pub label_or : Option Path → NodeMap → Option Label → Option Label
label_or None v l = l
label_or (Some p) v l = v p

-- `put n w v` agrees with `v` below the path `w`, and with `n` elsewhere
abbrev pub put : NodeMap → Path → NodeMap → NodeMap
put n w v = λ p. label_or (rest_after w p) v (n p)
