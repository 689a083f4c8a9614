-- Values that may not exist, and the order of paths.
use Rattle.std.specs.Prelude.{◌≡◌, ◌⊎◌, ⊤, List, [], ◌∷◌, Option, Some, None}
use Rattle.std.specs.Cmp.Lexicographic.{slice_cmp}
use Rattle.std.specs.Ordering.{nat_cmp}
use Rattle.std.specs.declared.cmp.Ordering.TheVariants.{Less}
use Rattle.serde_json.specs.View.{view}
use Rattle.serde_json.specs.declared.value.Value.{Value}
use Rattle.jsonptr.specs.Text.{Text}
use Rattle.jsonptr.specs.Json.{nodes, HasSortedKeys}
use Rattle.jsonptr.specs.Node.{NodeMap}

-- `no_value`: the map of a value that does not exist
abbrev pub no_value : NodeMap
no_value = λ w. None

-- `map_in o`: the map of the value `o`, if it exists
abbrev pub map_in : Option Value → NodeMap
map_in None = no_value
map_in (Some v) = nodes (view v)

-- `SortedIn o`: the keys of each object in the value `o`, if it exists, are in order
abbrev pub SortedIn : Option Value → Type 0
SortedIn None = ⊤
SortedIn (Some v) = HasSortedKeys (view v)

-- `IsBefore ts us`: the value that the keys `ts` lead to comes before that of the keys `us` in a document whose
-- members are in the order of the bytes of their keys. A value comes before those in it
abbrev pub IsBefore : List Text → List Text → Type 0
IsBefore [] [] = ⊥
IsBefore [] (y ∷ ys) = ⊤
IsBefore (x ∷ xs) [] = ⊥
IsBefore (x ∷ xs) (y ∷ ys) = (slice_cmp nat_cmp x y ≡ Less) ⊎ ((x ≡ y) × IsBefore xs ys)
