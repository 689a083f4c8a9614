-- What each variant of a Rust value shows.
use Rattle.std.proofs.Common.{◌≡◌, ℕ, ◌<◌, List, [], ◌∷◌, length, slice_index_or, Option, Some, None, MatchOption, option_map, String, Vec, BTreeMap, Global, sym, ap, subst}
use Rattle.std.specs.BTreeMap.{get_by_text}
use Rattle.jsonptr_grammar.specs.Text.{Text}
use Rattle.jsonptr_tree.specs.Node.{key, place, Scalar, an_object, an_array, a_leaf}
use Rattle.jsonptr_tree.specs.Content.{Content, scalar, array, object, label_of, content_at, map_of}
use Rattle.jsonptr_tree.proofs.LevelLemmas.{items_by, members_by, map_of-Array, content_at-Array, map_of-Object, content_at-Object}

module _ {V : Type 0} (see : V → Content) where
  -- d is a leaf
  abbrev pub IsLeaf : V → Type 0
  IsLeaf d = (v : Scalar) × (map_of (see d) [] ≡ Some (a_leaf v))

  -- d is an array with these elements
  abbrev pub IsArray : V → List V → Type 0
  IsArray d vs = (map_of (see d) [] ≡ Some (an_array (length vs))) × ((i : ℕ) (x : V) → i < length vs → content_at (place i ∷ []) (see d) ≡ Some (see (slice_index_or vs i x)))

  -- d is an object with these members
  abbrev pub IsObject : V → BTreeMap (String Global) V → Type 0
  IsObject d m = (map_of (see d) [] ≡ Some an_object) × ((k : Text) → MatchOption (get_by_text m k) (map_of (see d) (key k ∷ []) ≡ None) (λ u. content_at (key k ∷ []) (see d) ≡ Some (see u)))

  pub leaf : (d : V) (v : Scalar) → see d ≡ scalar v → IsLeaf d
  leaf d v e = (v, ap (λ (c : Content). map_of c []) e)

  pub array-Array : (Array : Vec V Global → V) (array_is : (v : Vec V Global) → see (Array v) ≡ array (items_by see v.items)) (d : V) (v : Vec V Global) → d ≡ Array v → IsArray d v.items
  array-Array Array array_is d v e = subst (λ (u : V). IsArray u v.items) (sym e) (map_of-Array see Array array_is v, content_at-Array see Array array_is v)

  member_or_none : (d : V) (k : Text) (o : Option V) → content_at (key k ∷ []) (see d) ≡ option_map see o
      → MatchOption o (map_of (see d) (key k ∷ []) ≡ None) (λ u. content_at (key k ∷ []) (see d) ≡ Some (see u))
  member_or_none d k None e = ap (option_map label_of) e
  member_or_none d k (Some u) e = e

  pub object-Object : (Object : BTreeMap (String Global) V → V) (object_is : (m : BTreeMap (String Global) V) → see (Object m) ≡ object (members_by see m.entries)) (d : V) (m : BTreeMap (String Global) V) → d ≡ Object m → IsObject d m
  object-Object Object object_is d m e = subst (λ (u : V). IsObject u m) (sym e) (map_of-Object see Object object_is m, λ k. member_or_none (Object m) k (get_by_text m k) (content_at-Object see Object object_is m k))
