-- Insertion into an array (RFC 6902, section 4.1).
use Rattle.std.specs.Prelude.{ℕ, zero, suc, [], ◌∷◌, Option, Some, None, option_map}
use Rattle.jsonptr.specs.Node.{key, place, Path, Label, an_array, NodeMap}

-- `one_more l`: the label of an array with one more element than the one with label `l`
abbrev pub one_more : Option Label → Option Label
one_more (Some (an_array len)) = Some (an_array (suc len))
one_more l = l

-- `place_of_old i j`: the index before the insertion at `i` of the element that is at `j` afterwards. It is `j`
-- itself below `i`, and one less above `i`. `None` at `i`, where the new element is
abbrev pub place_of_old : ℕ → ℕ → Option ℕ
place_of_old zero zero = None
place_of_old zero (suc j) = Some j
place_of_old (suc i) zero = Some zero
place_of_old (suc i) (suc j) = option_map suc (place_of_old i j)

-- `below_element k v n p`: the label at path `p` below element `k` of the array `n`, or in the new element `v` if `k`
-- is `None`
abbrev pub below_element : Option ℕ → NodeMap → NodeMap → Path → Option Label
below_element None v n p = v p
below_element (Some k) v n p = n (place k ∷ p)

-- `with_place i v n`: the map of the array `n` after inserting `v` at index `i`. It has one more element, and the
-- elements from `i` on move up by one
abbrev pub with_place : ℕ → NodeMap → NodeMap → NodeMap
with_place i v n [] = one_more (n [])
with_place i v n (key k ∷ p) = n (key k ∷ p)
with_place i v n (place j ∷ p) = below_element (place_of_old i j) v n p
