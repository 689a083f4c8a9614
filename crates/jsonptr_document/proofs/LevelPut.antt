-- What a value becomes once one of its children is written.
use Rattle.std.proofs.Common.{◌≡◌, ℕ, zero, suc, ◌<◌, Bool, true, false, cond, List, [], ◌∷◌, length, get_or, set, Option, Some, None, IsSome, option_and_then, option_map, String, string_bytes, Vec, BTreeMap, Global, refl, sym, ap, ◌∙◌, subst, arith}
use Rattle.std.proofs.lemmas.Map.Text.{btree_map_updates_text}
use Rattle.std.specs.BTreeMap.{get_by_text, is_at, WritesThrough}
use Rattle.std.specs.Cmp.Lexicographic.{slice_cmp}
use Rattle.std.specs.Map.{lookup, set_value}
use Rattle.std.specs.Ordering.{nat_cmp}
use Rattle.std.specs.Vec.{with_item}
use Rattle.std.specs.Prelude.{string_cmp}
use Rattle.jsonptr_grammar.specs.Text.{Text}
use Rattle.jsonptr_tree.specs.Node.{Step, key, place, Path, Label, an_object, an_array, NodeMap, NamesStep}
use Rattle.jsonptr_tree.specs.Content.{Content, array, object, item, member, items_len, get_item, content_at, map_of, SortedContent}
use Rattle.jsonptr_tree.specs.Following.{LacksStep}
use Rattle.jsonptr_tree.specs.Put.{put}
use Rattle.jsonptr_tree.proofs.NodeLemmas.{NamesStep_one_step}
use Rattle.jsonptr_tree.proofs.FollowingLemmas.{lacks_at_object}
use Rattle.jsonptr_tree.proofs.LevelLemmas.{items_by, members_by, items_len-by, get_item-by, get_member-by, map_of-set, map_of-insert, map_of-Object_none}
use Rattle.jsonptr_tree.proofs.ContentOrderLemmas.{part_has_sorted_keys, ascends_element, ascends_member}
use Rattle.jsonptr_document.specs.Child.{FindsChild}
use Rattle.jsonptr_document.specs.ChildRef.{IsIndexIn}
use Rattle.jsonptr_document.specs.Private.{StepsBack}

some_one : {A : Type 0} (a b : A) → Some a ≡ Some b → a ≡ b
some_one a b e = cc

module _ {V : Type 0} (see : V → Content) where
  abbrev pub nodes_of : V → NodeMap
  nodes_of v = map_of (see v)

  abbrev pub stands_in : V → Path → V → Type 0
  stands_in v w u = content_at w (see v) ≡ Some (see u)

  abbrev pub sorted_in : V → Type 0
  sorted_in v = SortedContent (see v)

  -- what is at the root of a value has its content
  pub same_content : (v u : V) → stands_in v [] u → see u ≡ see v
  same_content v u h = sym (some_one (see v) (see u) h)

  -- ---- an element

  -- an element that is written unchanged changes nothing
  items_by-set : (vs : List V) (i : ℕ) (v w : V) → v ≡ get_or vs i v → see v ≡ see w → items_by see (set vs i w) ≡ items_by see vs
  items_by-set [] i v w is e = refl
  items_by-set (u ∷ vs) zero v w is e = ap (λ (d : Content). item d (items_by see vs)) (sym e ∙ ap see is)
  items_by-set (u ∷ vs) (suc i) v w is e = ap (item (see u)) (items_by-set vs i v w is e)

  module _ (Array : Vec V Global → V) (array_is : (v : Vec V Global) → see (Array v) ≡ array (items_by see v.items)) (at : V) (vs : Vec V Global) (x : Text) (i : ℕ) (is : see at ≡ see (Array vs)) (len : ℕ) (label_is : nodes_of at [] ≡ Some (an_array len)) (p : IsIndexIn len x i) where
    items_are : see at ≡ array (items_by see vs.items)
    items_are = is ∙ array_is vs

    pub array_inside : i < length vs.items
    array_inside =
        let both : Some (an_array len) ≡ Some (an_array (items_len (items_by see vs.items))) = sym label_is ∙ ap (λ (d : Content). map_of d []) items_are in
        let same : len ≡ items_len (items_by see vs.items) = cc in
        omega (arith, p.0, same ∙ items_len-by see vs.items)

    place_named : NamesStep (nodes_of at []) x (place i)
    place_named = subst (λ (l : Option Label). NamesStep l x (place i)) (sym label_is) p

    element_there : (e : V) → e ≡ get_or vs.items i e → stands_in at (place i ∷ []) e
    element_there e there =
        let got : get_item i (items_by see vs.items) ≡ Some (see e) = get_item-by see vs.items i e array_inside ∙ ap (λ (v : V). Some (see v)) (sym there) in
        ap (λ (d : Content). content_at (place i ∷ []) d) items_are ∙ ap (option_and_then (content_at [])) got

    pub element_found : (e : V) → e ≡ get_or vs.items i e → FindsChild (nodes_of at) (stands_in at) x e
    element_found e there = record { step = place i; named = place_named; there = element_there e there }

    element_put : (w : V) → nodes_of (Array (with_item vs i w)) ≡ put (nodes_of at) (place i ∷ []) (nodes_of w)
    element_put w = map_of-set see Array array_is vs (with_item vs i w) i w array_inside refl ∙ ap (λ (d : Content). put (map_of d) (place i ∷ []) (nodes_of w)) (sym is)

    pub element_back : (e w : V) → e ≡ get_or vs.items i e → StepsBack nodes_of stands_in sorted_in at x e w (Array (with_item vs i w))
    element_back e w there = (
      λ s named. let same : place i ≡ s = NamesStep_one_step (nodes_of at []) x (place i) s place_named named in
          subst (λ (t : Step). nodes_of (Array (with_item vs i w)) ≡ put (nodes_of at) (t ∷ []) (nodes_of w)) same (element_put w),
      λ same. ap Some (items_are ∙ ap array (sym (items_by-set vs.items i e w there (some_one (see e) (see w) same))) ∙ sym (array_is (with_item vs i w))),
      λ keeps order. ascends_element see Array array_is vs (with_item vs i w) (subst SortedContent is order) i w (keeps (part_has_sorted_keys (place i ∷ []) (see at) (see e) order (element_there e there))) refl,
    )

  -- ---- a member

  module _ (test : String Global → Bool) (v w : V) (same : see v ≡ see w) where
    set_or : (b : Bool) (e : String Global × V) (es : List (String Global × V)) → cond b (Some e.1) (lookup test es) ≡ Some v → (lookup test es ≡ Some v → members_by see (set_value test es w) ≡ members_by see es)
        → members_by see (cond b ((e.0, w) ∷ es) (e ∷ set_value test es w)) ≡ members_by see (e ∷ es)
    set_or true e es h rest = let here : e.1 ≡ v = some_one e.1 v h in ap (λ (d : Content). member (string_bytes e.0) d (members_by see es)) (sym same ∙ sym (ap see here))
    set_or false e es h rest = ap (member (string_bytes e.0) (see e.1)) (rest h)

    -- a member that is written unchanged changes nothing
    members_by-set : (es : List (String Global × V)) → lookup test es ≡ Some v → members_by see (set_value test es w) ≡ members_by see es
    members_by-set [] h = refl
    members_by-set (e ∷ es) h = set_or (test e.0) e es h (members_by-set es)

  module _ (Object : BTreeMap (String Global) V → V) (object_is : (m : BTreeMap (String Global) V) → see (Object m) ≡ object (members_by see m.entries)) (at : V) (m : BTreeMap (String Global) V) (x k : Text) (same_key : k ≡ x) (is : see at ≡ see (Object m)) (label_is : nodes_of at [] ≡ Some an_object) where
    members_are : see at ≡ object (members_by see m.entries)
    members_are = is ∙ object_is m

    key_named : NamesStep (nodes_of at []) x (key k)
    key_named = subst (λ (l : Option Label). NamesStep l x (key k)) (sym label_is) same_key

    -- an object has no child under a key that the map lacks
    pub member_lacks : None ≡ get_by_text m k → LacksStep (nodes_of at) [] x
    member_lacks none =
        let gone : nodes_of at (key k ∷ []) ≡ None = subst (λ (d : Content). map_of d (key k ∷ []) ≡ None) (sym is) (map_of-Object_none see Object object_is m k (sym none)) in
        lacks_at_object (nodes_of at) [] x label_is (subst (λ (t : Text). nodes_of at (key t ∷ []) ≡ None) same_key gone)

    -- and with the same map it is unchanged
    pub member_stays : (n : BTreeMap (String Global) V) → n ≡ m → stands_in at [] (Object n)
    member_stays n same = ap Some (is ∙ ap (λ (t : BTreeMap (String Global) V). see (Object t)) (sym same))

    member_there : (e : V) → Some e ≡ get_by_text m k → stands_in at (key k ∷ []) e
    member_there e there = ap (λ (d : Content). content_at (key k ∷ []) d) members_are ∙ ap (option_and_then (content_at [])) (get_member-by see m k ∙ ap (option_map see) (sym there))

    pub member_found : (e : V) → Some e ≡ get_by_text m k → FindsChild (nodes_of at) (stands_in at) x e
    member_found e there = record {
      step = key k;
      named = key_named;
      there = member_there e there;
    }

    module _ (n : BTreeMap (String Global) V) (e w : V) (there : Some e ≡ get_by_text m k) (writes : WritesThrough string_cmp (λ q. slice_cmp nat_cmp k (string_bytes q)) m w n) where
      has : IsSome (get_by_text m k)
      has = subst (λ (o : Option V). IsSome o) there refl

      member_put : nodes_of (Object n) ≡ put (nodes_of at) (key k ∷ []) (nodes_of w)
      member_put = map_of-insert see Object object_is m n k w (btree_map_updates_text k m n (Some w) (writes.3 has)) ∙ ap (λ (d : Content). put (map_of d) (key k ∷ []) (nodes_of w)) (sym is)

      pub member_back : StepsBack nodes_of stands_in sorted_in at x e w (Object n)
      member_back = (
        λ s named. let same : key k ≡ s = NamesStep_one_step (nodes_of at []) x (key k) s key_named named in
            subst (λ (t : Step). nodes_of (Object n) ≡ put (nodes_of at) (t ∷ []) (nodes_of w)) same member_put,
        λ same. ap Some (members_are ∙ ap object (sym (ap (members_by see) writes.0 ∙ members_by-set (is_at (λ q. slice_cmp nat_cmp k (string_bytes q))) e w (some_one (see e) (see w) same) m.entries (sym there))) ∙ sym (object_is n)),
        λ keeps order. ascends_member see Object object_is m n (subst SortedContent is order) (is_at (λ q. slice_cmp nat_cmp k (string_bytes q))) w (keeps (part_has_sorted_keys (key k ∷ []) (see at) (see e) order (member_there e there))) writes.0,
      )
