-- Path expansion: the containers that are made for tokens that name nothing yet.
use Rattle.std.specs.Prelude.{◌≡◌, ℕ, Bool, ◌||◌, List, [], ◌∷◌, ◌++◌, Some, None, codes, if◌then◌else◌}
use Rattle.std.specs.Str.{bytes_eq}
use Rattle.jsonptr_grammar.specs.Text.{Text, dec}
use Rattle.jsonptr_tree.specs.Node.{Step, key, place, Label, an_object, an_array, NodeMap}
use Rattle.jsonptr_tree.specs.Put.{same_step}

-- `is_append_index len x`: the token `x` is `-` or the decimal text of `len`. Both name the index
-- after the last element of an array of length `len` (RFC 6901, section 4)
abbrev pub is_append_index : ℕ → Text → Bool
is_append_index len x = bytes_eq x (codes "-") || bytes_eq x (dec len)

-- `with_one l s m` is the map of a node with the label `l` and one child, `m`, at the step `s`
abbrev pub with_one : Label → Step → NodeMap → NodeMap
with_one l s m [] = Some l
with_one l s m (t ∷ p) = if same_step s t then m p else None

-- `expanded tokens v` is the map `v`, expanded by `tokens`. A token `-` or `0` makes an array of one
-- element, and any other an object of one member under that token, around what the tokens after it
-- make
abbrev pub expanded : List Text → NodeMap → NodeMap
expanded [] v = v
expanded (x ∷ xs) v =
    if is_append_index 0 x
    then with_one (an_array 1) (place 0) (expanded xs v)
    else with_one an_object (key x) (expanded xs v)

-- `LacksDash tokens`: none of `tokens` is `-`
abbrev pub LacksDash : List Text → Type 0
LacksDash tokens = (xs ys : List Text) → tokens ≡ xs ++ codes "-" ∷ ys → ⊥
