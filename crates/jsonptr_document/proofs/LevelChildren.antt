-- What a value becomes with a child more or one less.
use Rattle.std.proofs.Common.{◌≡◌, ℕ, ◌<◌, ◌≤◌, bytes_eq, cond, [], ◌∷◌, ◌++◌, length, get_or, Option, Some, None, IsSome, option_map, String, string_bytes, Vec, BTreeMap, Global, refl, sym, ap, ◌∙◌, subst, arith}
use Rattle.std.proofs.lemmas.Map.Text.{btree_map_updates_text}
use Rattle.std.specs.BTreeMap.{get_by_text, is_at, IsEmpty, UpdatesBy}
use Rattle.std.specs.Cmp.Lexicographic.{slice_cmp}
use Rattle.std.specs.Cow.{cow_str_bytes}
use Rattle.std.specs.List.{remove}
use Rattle.std.specs.Map.{lookup}
use Rattle.std.specs.Ordering.{nat_cmp}
use Rattle.std.specs.Prelude.{string_cmp}
use Rattle.std.specs.declared.borrow.CowStr.{CowStr}
use Rattle.jsonptr_grammar.specs.Text.{Text}
use Rattle.jsonptr_tree.specs.Node.{Step, key, place, Label, an_object, an_array, a_leaf, MayHave}
use Rattle.jsonptr_tree.specs.Content.{Content, array, object}
use Rattle.jsonptr_tree.specs.Put.{put}
use Rattle.jsonptr_tree.specs.Expansion.{with_one}
use Rattle.jsonptr_tree.specs.Assigning.{with_room}
use Rattle.jsonptr_tree.proofs.ContentLemmas.{map_of-IsTree}
use Rattle.jsonptr_tree.proofs.LevelLemmas.{items_by, members_by, map_of-Array, content_at-Array, map_of-Object, content_at-Object, map_of-Object_none, map_of-push, map_of-remove, map_of-insert, map_of-remove_member, map_of-one_member}
use Rattle.jsonptr_document.proofs.LevelNodes.{IsLeaf}
use Rattle.jsonptr_document.proofs.LevelPut.{nodes_of, stands_in}
use Rattle.jsonptr_document.specs.Writing.{step_of, Pushes, Removes}
use Rattle.jsonptr_document.specs.declared.child_ref.ChildRef.{ChildRef}
use Rattle.jsonptr_document.specs.declared.child_ref.ChildRef.TheVariants.{Element, Member, Missing}

module _ {V : Type 0} (see : V → Content) where
  none_or : (o : Option Label) → (IsSome o → ⊥) → o ≡ None
  none_or None h = refl
  none_or (Some l) h = absurd (h refl)

  -- where the label of the root allows none
  not_allowed : (d : V) (l : Label) (s : Step) → nodes_of see d [] ≡ Some l → (MayHave (Some l) s → ⊥) → nodes_of see d (s ∷ []) ≡ None
  not_allowed d l s is denied = none_or (nodes_of see d (s ∷ [])) (λ (h : IsSome (nodes_of see d (s ∷ []))). denied (subst (λ (o : Option Label). MayHave o s) is ((map_of-IsTree (see d)).parent [] s h)))

  -- the value has no child at that step
  abbrev pub Lacks : V → ChildRef → Type 0
  Lacks d way = (s : Step) → step_of way ≡ Some s → nodes_of see d (s ∷ []) ≡ None

  -- a leaf has no child
  pub leaf-lacks : (d : V) (way : ChildRef) → IsLeaf see d → Lacks d way
  leaf-lacks d way leaf s is = not_allowed d (a_leaf leaf.0) s leaf.1 (λ h. h)

  module _ (Array : Vec V Global → V) (array_is : (v : Vec V Global) → see (Array v) ≡ array (items_by see v.items)) where
    -- an array with an element appended
    pub array-push : (v w : Vec V Global) (x : V) → w.items ≡ v.items ++ x ∷ [] → Pushes (nodes_of see (Array v)) (nodes_of see x) (nodes_of see (Array w))
    array-push v w x items len label =
        let both : Some (an_array len) ≡ Some (an_array (length v.items)) = sym label ∙ map_of-Array see Array array_is v in
        let same : len ≡ length v.items = cc in
        subst (λ (n : ℕ). nodes_of see (Array w) ≡ put (with_room (nodes_of see (Array v)) (place n ∷ [])) (place n ∷ []) (nodes_of see x)) (sym same) (map_of-push see Array array_is v w x items)

    -- an array without the element at an index
    pub array-remove : (v w : Vec V Global) (i : ℕ) (x : V) → i < length v.items → x ≡ get_or v.items i x → w.items ≡ remove v.items i → Removes (nodes_of see) (stands_in see) (Array v) (Element i) (Array w) (Some x)
    array-remove v w i x inside there items = (place i, refl, content_at-Array see Array array_is v i x inside ∙ ap (λ (u : V). Some (see u)) (sym there), map_of-remove see Array array_is v w i inside items)

    -- an array has no child except those at the indices below its length
    pub array-lacks : (v : Vec V Global) (way : ChildRef) → ((i : ℕ) → way ≡ Element i → length v.items ≤ i) → Lacks (Array v) way
    array-lacks v (Element i) past s is =
        let named : place i ≡ s = cc in
        not_allowed (Array v) (an_array (length v.items)) s (map_of-Array see Array array_is v) (subst (λ (t : Step). MayHave (Some (an_array (length v.items))) t → ⊥) named (λ (h : i < length v.items). let above : length v.items ≤ i = past i refl in omega arith))
    array-lacks v (Member k) past s is =
        let named : key (cow_str_bytes k) ≡ s = cc in
        not_allowed (Array v) (an_array (length v.items)) s (map_of-Array see Array array_is v) (subst (λ (t : Step). MayHave (Some (an_array (length v.items))) t → ⊥) named (λ h. h))
    array-lacks v (Missing e) past s is = let none : ⊥ = cc in absurd none

  module _ (Object : BTreeMap (String Global) V → V) (object_is : (m : BTreeMap (String Global) V) → see (Object m) ≡ object (members_by see m.entries)) where
    -- an object with a member set or added
    pub object-insert : (m n : BTreeMap (String Global) V) (k : Text) (x : V) → UpdatesBy string_cmp (λ q. slice_cmp nat_cmp k (string_bytes q)) m n (Some x)
        → nodes_of see (Object n) ≡ put (nodes_of see (Object m)) (key k ∷ []) (nodes_of see x)
    object-insert m n k x updates = map_of-insert see Object object_is m n k x (btree_map_updates_text k m n (Some x) updates)

    -- an object of one member
    pub one_member : (m n : BTreeMap (String Global) V) (k : Text) (x : V) → IsEmpty m → UpdatesBy string_cmp (λ q. slice_cmp nat_cmp k (string_bytes q)) m n (Some x) → nodes_of see (Object n) ≡ with_one an_object (key k) (nodes_of see x)
    one_member m n k x empty updates = map_of-one_member see Object object_is n k x (λ q. btree_map_updates_text k m n (Some x) updates q ∙ ap (λ es. cond (bytes_eq k q) (Some x) (lookup (is_at (λ l. slice_cmp nat_cmp q (string_bytes l))) es)) empty)

    -- an object without the member under a key, if it has one
    pub object-remove : (m n : BTreeMap (String Global) V) (k : CowStr Global) (answer : Option V) → answer ≡ get_by_text m (cow_str_bytes k) → UpdatesBy string_cmp (λ q. slice_cmp nat_cmp (cow_str_bytes k) (string_bytes q)) m n None → (answer ≡ None → n.entries ≡ m.entries)
        → Removes (nodes_of see) (stands_in see) (Object m) (Member k) (Object n) answer
    object-remove m n k None there updates same = (
      λ s is. let named : key (cow_str_bytes k) ≡ s = cc in subst (λ (t : Step). nodes_of see (Object m) (t ∷ []) ≡ None) named (map_of-Object_none see Object object_is m (cow_str_bytes k) (sym there)),
      ap Some (object_is m ∙ ap (λ es. object (members_by see es)) (sym (same refl)) ∙ sym (object_is n)),
    )
    object-remove m n k (Some x) there updates same = (key (cow_str_bytes k), refl, content_at-Object see Object object_is m (cow_str_bytes k) ∙ ap (option_map see) (sym there), map_of-remove_member see Object object_is m n (cow_str_bytes k) (btree_map_updates_text (cow_str_bytes k) m n None updates))

    -- an object has no child except its members
    pub object-lacks : (m : BTreeMap (String Global) V) (way : ChildRef) → ((k : CowStr Global) → way ≡ Member k → ⊥) → Lacks (Object m) way
    object-lacks m (Element i) apart s is =
        let named : place i ≡ s = cc in
        not_allowed (Object m) an_object s (map_of-Object see Object object_is m) (subst (λ (t : Step). MayHave (Some an_object) t → ⊥) named (λ h. h))
    object-lacks m (Member k) apart s is = absurd (apart k refl)
    object-lacks m (Missing e) apart s is = let none : ⊥ = cc in absurd none
