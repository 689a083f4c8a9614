-- What one level of a document shows, independently of the crate of its values.
use Rattle.std.specs.Prelude.{◌≡◌, ℕ, ◌<◌, [], ◌∷◌, length, slice_index_or, Some, None, MatchOption}
use Rattle.std.specs.BTreeMap.{get_by_text}
use Rattle.jsonptr_grammar.specs.Text.{Text}
use Rattle.jsonptr_tree.specs.Node.{key, place, Path, Scalar, an_object, an_array, a_leaf, NodeMap}
use Rattle.jsonptr_document.specs.declared.document.Node.{Node}
use Rattle.jsonptr_document.specs.declared.document.Node.TheVariants.{Leaf, Array, Object}

-- `Shows n stands node`: `node` is the root of the map `n`, with its children one step below.
-- `stands w e` says that the document `e` is at the path `w`
abbrev pub Shows : {D : Type 0} → NodeMap → (Path → D → Type 0) → Node D → Type 0
Shows n stands Leaf = (v : Scalar) × (n [] ≡ Some (a_leaf v))
Shows n stands (Array v) =
    (n [] ≡ Some (an_array (length v.now.items)))
    × ((i : ℕ) (x : _) → i < length v.now.items
    → stands (place i ∷ []) (slice_index_or v.now.items i x))
Shows n stands (Object m) =
    (n [] ≡ Some an_object)
    × ((k : Text) → MatchOption (get_by_text m.now k) (n (key k ∷ []) ≡ None) (stands (key k ∷ [])))
