-- Sorted keys of objects: in the parts of a value, in Rust lists and maps, and in what is written.
use Rattle.std.proofs.Common.{◌≡◌, ℕ, zero, suc, Ordering, Less, Equal, Greater, nat_cmp, bytes_eq, Bool, true, false, cond, Contains, List, [], ◌∷◌, ◌++◌, set, take, drop, Option, Some, None, option_and_then, String, string_bytes, string_cmp, Vec, BTreeMap, Global, refl, sym, subst, arith}
use Rattle.std.specs.Cmp.Lexicographic.{slice_cmp}
use Rattle.std.specs.Ordering.{match_ordering}
use Rattle.std.specs.List.{remove, AllByRecursion}
use Rattle.std.specs.List.Sorted.{IsStrictlySortedBy}
use Rattle.std.specs.BTreeMap.{insert_entry, values, IsOrdered}
use Rattle.std.specs.Map.{remove_entry, set_value, keys_of, values_of}
use Rattle.jsonptr_grammar.specs.Text.{Text}
use Rattle.jsonptr_tree.specs.Node.{Step, key, place, Path}
use Rattle.jsonptr_tree.specs.Content.{Content, scalar, array, object, Items, no_items, item, Members, no_members, member, get_item, get_member, child, content_at, KeysAbove, SortedContent, SortedItems, SortedMembers}
use Rattle.jsonptr_tree.proofs.ListedLemmas.{Contains-cons}
use Rattle.jsonptr_tree.proofs.ContentMapLemmas.{below_flip, above_more}
use Rattle.jsonptr_tree.proofs.LevelLemmas.{items_by, members_by}

-- ---- parts

items_part : (ds : Items) (i : ℕ) (e : Content) → SortedItems ds → get_item i ds ≡ Some e → SortedContent e
items_part no_items i e a h = let no : ⊥ = cc in absurd no
items_part (item d ds) zero e a h = let same : d ≡ e = cc in subst SortedContent same a.0
items_part (item d ds) (suc i) e a h = items_part ds i e a.1 h

members_part : (k : Text) (ms : Members) (e : Content) → SortedMembers ms → get_member k ms ≡ Some e → SortedContent e
members_part k no_members e a h = let no : ⊥ = cc in absurd no
members_part k (member l d ms) e a h = by_test (members_part k ms e a.2) (bytes_eq k l) h
  where
    by_test : (get_member k ms ≡ Some e → SortedContent e) → (b : Bool) → cond b (Some d) (get_member k ms) ≡ Some e → SortedContent e
    by_test later true g = let same : d ≡ e = cc in subst SortedContent same a.0
    by_test later false g = later g

child_part : (s : Step) (d e : Content) → SortedContent d → child s d ≡ Some e → SortedContent e
child_part s (scalar v) e a h = let no : ⊥ = cc in absurd no
child_part (key k) (array ds) e a h = let no : ⊥ = cc in absurd no
child_part (place i) (array ds) e a h = items_part ds i e a h
child_part (key k) (object ms) e a h = members_part k ms e a h
child_part (place i) (object ms) e a h = let no : ⊥ = cc in absurd no

-- each part of a value with sorted keys has sorted keys
pub part_has_sorted_keys : (w : Path) (d e : Content) → SortedContent d → content_at w d ≡ Some e → SortedContent e
part_has_sorted_keys [] d e a h = let same : d ≡ e = cc in subst SortedContent same a
part_has_sorted_keys (s ∷ w) d e a h = below (λ c. part_has_sorted_keys w c e) (child s d) refl h
  where
    below : ((c : Content) → SortedContent c → content_at w c ≡ Some e → SortedContent e) → (o : Option Content) → child s d ≡ o → option_and_then (content_at w) o ≡ Some e → SortedContent e
    below part None is g = let no : ⊥ = cc in absurd no
    below part (Some c) is g = part c (child_part s d c a is) g

Contains-first : {A : Type 0} (x : A) (xs : List A) → Contains (x ∷ xs) x
Contains-first x xs = (0, omega arith, refl)

module _ {V : Type 0} (see : V → Content) where
  -- ---- Rust lists and maps

  items_ascend : (vs : List V) → ((x : V) → Contains vs x → SortedContent (see x)) → SortedItems (items_by see vs)
  items_ascend [] h = tt
  items_ascend (v ∷ vs) h = (h v (Contains-first v vs), items_ascend vs (λ x c. h x (Contains-cons v vs x c)))

  -- an array whose elements have sorted keys
  pub array_ascends : (Array : Vec V Global → V) (array_is : (v : Vec V Global) → see (Array v) ≡ array (items_by see v.items)) (v : Vec V Global) → ((x : V) → Contains v.items x → SortedContent (see x)) → SortedContent (see (Array v))
  array_ascends Array array_is v h = subst SortedContent (sym (array_is v)) (items_ascend v.items h)

  keys_above : (k : String Global) (es : List (String Global × V)) → AllByRecursion (λ y. string_cmp k y ≡ Less) (keys_of es) → KeysAbove (string_bytes k) (members_by see es)
  keys_above k [] h = tt
  keys_above k (e ∷ es) h = (h.0, keys_above k es h.1)

  members_ascend : (es : List (String Global × V)) → IsStrictlySortedBy string_cmp (keys_of es) → ((x : V) → Contains (values_of es) x → SortedContent (see x)) → SortedMembers (members_by see es)
  unfolding IsStrictlySortedBy
  members_ascend [] order h = tt
  members_ascend (e ∷ es) order h = (
    h e.1 (Contains-first e.1 (values_of es)),
    keys_above e.0 es order.0,
    members_ascend es order.1 (λ x c. h x (Contains-cons e.1 (values_of es) x c)),
  )

  -- an object of a Rust map in order, whose values have sorted keys
  pub object_ascends : (Object : BTreeMap (String Global) V → V) (object_is : (m : BTreeMap (String Global) V) → see (Object m) ≡ object (members_by see m.entries)) (m : BTreeMap (String Global) V) → IsOrdered string_cmp m → ((x : V) → Contains (values m) x → SortedContent (see x)) → SortedContent (see (Object m))
  object_ascends Object object_is m order h = subst SortedContent (sym (object_is m)) (members_ascend m.entries order h)

  -- ---- what is written to an array

  items_set : (vs : List V) (i : ℕ) (x : V) → SortedItems (items_by see vs) → SortedContent (see x) → SortedItems (items_by see (set vs i x))
  items_set [] i x a h = tt
  items_set (v ∷ vs) zero x a h = (h, a.1)
  items_set (v ∷ vs) (suc i) x a h = (a.0, items_set vs i x a.1 h)

  items_push : (vs : List V) (x : V) → SortedItems (items_by see vs) → SortedContent (see x) → SortedItems (items_by see (vs ++ x ∷ []))
  items_push [] x a h = (h, tt)
  items_push (v ∷ vs) x a h = (a.0, items_push vs x a.1 h)

  items_remove : (vs : List V) (i : ℕ) → SortedItems (items_by see vs) → SortedItems (items_by see (take i vs ++ drop (suc i) vs))
  items_remove [] zero a = tt
  items_remove [] (suc i) a = tt
  items_remove (v ∷ vs) zero a = a.1
  items_remove (v ∷ vs) (suc i) a = (a.0, items_remove vs i a.1)

  module _ (Array : Vec V Global → V) (array_is : (v : Vec V Global) → see (Array v) ≡ array (items_by see v.items)) (v w : Vec V Global) (a : SortedContent (see (Array v))) where
    before : SortedItems (items_by see v.items)
    before = subst SortedContent (array_is v) a

    after : (vs : List V) → w.items ≡ vs → SortedItems (items_by see vs) → SortedContent (see (Array w))
    after vs e h = subst SortedContent (sym (array_is w)) (subst (λ (us : List V). SortedItems (items_by see us)) (sym e) h)

    -- an element set, appended, or removed
    pub ascends_element : (i : ℕ) (x : V) → SortedContent (see x) → w.items ≡ set v.items i x → SortedContent (see (Array w))
    ascends_element i x h e = after (set v.items i x) e (items_set v.items i x before h)

    pub ascends_push : (x : V) → SortedContent (see x) → w.items ≡ v.items ++ x ∷ [] → SortedContent (see (Array w))
    ascends_push x h e = after (v.items ++ x ∷ []) e (items_push v.items x before h)

    pub ascends_remove : (i : ℕ) → w.items ≡ remove v.items i → SortedContent (see (Array w))
    ascends_remove i e = after (take i v.items ++ drop (suc i) v.items) e (items_remove v.items i before)

  -- an element alone
  pub ascends_one_element : (Array : Vec V Global → V) (array_is : (v : Vec V Global) → see (Array v) ≡ array (items_by see v.items)) (w : Vec V Global) (x : V) → SortedContent (see x) → w.items ≡ x ∷ [] → SortedContent (see (Array w))
  ascends_one_element Array array_is w x h e = subst SortedContent (sym (array_is w)) (subst (λ (us : List V). SortedItems (items_by see us)) (sym e) (h, tt))

  -- ---- what is written to an object

  module _ (test : String Global → Bool) where
    above_set : (k : Text) (es : List (String Global × V)) (x : V) → KeysAbove k (members_by see es) → KeysAbove k (members_by see (set_value test es x))
    above_set k [] x h = tt
    above_set k (e ∷ es) x h = by_test (above_set k es x h.1) (test e.0)
      where
        by_test : KeysAbove k (members_by see (set_value test es x)) → (b : Bool) → KeysAbove k (members_by see (cond b ((e.0, x) ∷ es) (e ∷ set_value test es x)))
        by_test later true = (h.0, h.1)
        by_test later false = (h.0, later)

    members_set : (es : List (String Global × V)) (x : V) → SortedMembers (members_by see es) → SortedContent (see x) → SortedMembers (members_by see (set_value test es x))
    members_set [] x a h = tt
    members_set (e ∷ es) x a h = by_test (members_set es x a.2 h) (test e.0)
      where
        by_test : SortedMembers (members_by see (set_value test es x)) → (b : Bool) → SortedMembers (members_by see (cond b ((e.0, x) ∷ es) (e ∷ set_value test es x)))
        by_test later true = (h, a.1, a.2)
        by_test later false = (a.0, above_set (string_bytes e.0) es x a.1, later)

    above_remove : (k : Text) (es : List (String Global × V)) → KeysAbove k (members_by see es) → KeysAbove k (members_by see (remove_entry test es))
    above_remove k [] h = tt
    above_remove k (e ∷ es) h = by_test (above_remove k es h.1) (test e.0)
      where
        by_test : KeysAbove k (members_by see (remove_entry test es)) → (b : Bool) → KeysAbove k (members_by see (cond b es (e ∷ remove_entry test es)))
        by_test later true = h.1
        by_test later false = (h.0, later)

    members_remove : (es : List (String Global × V)) → SortedMembers (members_by see es) → SortedMembers (members_by see (remove_entry test es))
    members_remove [] a = tt
    members_remove (e ∷ es) a = by_test (members_remove es a.2) (test e.0)
      where
        by_test : SortedMembers (members_by see (remove_entry test es)) → (b : Bool) → SortedMembers (members_by see (cond b es (e ∷ remove_entry test es)))
        by_test later true = a.2
        by_test later false = (a.0, above_remove (string_bytes e.0) es a.1, later)

  -- an entry inserted, in order
  above_insert : (j : Text) (k : String Global) (x : V) (es : List (String Global × V)) → slice_cmp nat_cmp j (string_bytes k) ≡ Less → KeysAbove j (members_by see es) → KeysAbove j (members_by see (insert_entry string_cmp es k x))
  above_insert j k x [] h a = (h, tt)
  above_insert j k x (e ∷ es) h a = by_order (above_insert j k x es h a.1) (string_cmp k e.0)
    where
      by_order : KeysAbove j (members_by see (insert_entry string_cmp es k x)) → (o : Ordering) → KeysAbove j (members_by see (match_ordering o ((k, x) ∷ e ∷ es) ((e.0, x) ∷ es) (e ∷ insert_entry string_cmp es k x)))
      by_order later Less = (h, (a.0, a.1))
      by_order later Equal = (a.0, a.1)
      by_order later Greater = (a.0, later)

  members_insert : (es : List (String Global × V)) (k : String Global) (x : V) → SortedMembers (members_by see es) → SortedContent (see x) → SortedMembers (members_by see (insert_entry string_cmp es k x))
  members_insert [] k x a h = (h, tt, tt)
  members_insert (e ∷ es) k x a h = by_order (members_insert es k x a.2 h) (string_cmp k e.0) refl
    where
      by_order : SortedMembers (members_by see (insert_entry string_cmp es k x)) → (o : Ordering) → string_cmp k e.0 ≡ o → SortedMembers (members_by see (match_ordering o ((k, x) ∷ e ∷ es) ((e.0, x) ∷ es) (e ∷ insert_entry string_cmp es k x)))
      by_order later Less is = (h, (is, above_more (string_bytes k) (string_bytes e.0) (members_by see es) is a.1), a)
      by_order later Equal is = (h, a.1, a.2)
      by_order later Greater is = (a.0, above_insert (string_bytes e.0) k x es (below_flip (string_bytes k) (string_bytes e.0) is) a.1, later)

  module _ (Object : BTreeMap (String Global) V → V) (object_is : (m : BTreeMap (String Global) V) → see (Object m) ≡ object (members_by see m.entries)) (m n : BTreeMap (String Global) V) (a : SortedContent (see (Object m))) where
    members_before : SortedMembers (members_by see m.entries)
    members_before = subst SortedContent (object_is m) a

    members_after : (es : List (String Global × V)) → n.entries ≡ es → SortedMembers (members_by see es) → SortedContent (see (Object n))
    members_after es e h = subst SortedContent (sym (object_is n)) (subst (λ (fs : List (String Global × V)). SortedMembers (members_by see fs)) (sym e) h)

    -- a member set, inserted, or removed
    pub ascends_member : (test : String Global → Bool) (x : V) → SortedContent (see x) → n.entries ≡ set_value test m.entries x → SortedContent (see (Object n))
    ascends_member test x h e = members_after (set_value test m.entries x) e (members_set test m.entries x members_before h)

    pub ascends_insert : (k : String Global) (x : V) → SortedContent (see x) → n.entries ≡ insert_entry string_cmp m.entries k x → SortedContent (see (Object n))
    ascends_insert k x h e = members_after (insert_entry string_cmp m.entries k x) e (members_insert m.entries k x members_before h)

    pub ascends_remove_member : (test : String Global → Bool) → n.entries ≡ remove_entry test m.entries → SortedContent (see (Object n))
    ascends_remove_member test e = members_after (remove_entry test m.entries) e (members_remove test m.entries members_before)
