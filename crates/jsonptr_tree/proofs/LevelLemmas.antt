-- One level of a Rust value: what it shows, and what it becomes once it is written. The values are of any type
-- that has content, in which some arrays hold a list of values, and some objects a map of them.
use Rattle.std.proofs.Common.{◌≡◌, ℕ, zero, suc, ◌-◌, ◌<◌, max, Bool, true, false, cond, is_eq, nat_cmp, bytes_eq, List, [], ◌∷◌, ◌++◌, length, get_or, set, take, drop, Option, Some, None, option_and_then, option_map, String, string_bytes, Vec, BTreeMap, Global, refl, sym, ap, ◌∙◌, arith}
use mathlib.Core.Path.{fun_ext}
use Rattle.std.proofs.lemmas.Map.Text.{is_eq-slice_cmp}
use Rattle.std.specs.List.{remove}
use Rattle.std.specs.Map.{update, lookup}
use Rattle.std.specs.BTreeMap.{get_by_text, is_at}
use Rattle.std.specs.Cmp.Lexicographic.{slice_cmp}
use Rattle.jsonptr_grammar.specs.Text.{Text}
use Rattle.jsonptr_tree.specs.Node.{Step, key, place, Path, Label, an_object, an_array, NodeMap}
use Rattle.jsonptr_tree.specs.Content.{Content, array, object, Items, no_items, item, Members, no_members, member, items_len, get_item, get_member, label_of, content_at, map_of}
use Rattle.jsonptr_tree.specs.Put.{same_place, same_step, rest_after, label_or, put}
use Rattle.jsonptr_tree.specs.Expansion.{with_one}
use Rattle.jsonptr_tree.specs.Assigning.{long_enough, with_room}
use Rattle.jsonptr_tree.specs.Removing.{place_before, without_step}
use Rattle.jsonptr_tree.proofs.AssigningLemmas.{made}
use Rattle.jsonptr_tree.proofs.ContentLemmas.{content_at-push}

-- one step below a root, put

put_one : (n : NodeMap) (s t : Step) (v : NodeMap) (p : Path) → put n (s ∷ []) v (t ∷ p) ≡ cond (same_step s t) (v p) (n (t ∷ p))
put_one n s t v p = by_test (same_step s t)
  where
    by_test : (b : Bool) → label_or (cond b (Some p) None) v (n (t ∷ p)) ≡ cond b (v p) (n (t ∷ p))
    by_test true = refl
    by_test false = refl

room_one : (n : NodeMap) (s t : Step) (p : Path) → with_room n (s ∷ []) (t ∷ p) ≡ n (t ∷ p)
room_one n s t p = by_test (same_step t s) p
  where
    by_test : (b : Bool) (q : Path) → long_enough (cond b (rest_after q []) None) (n (t ∷ p)) ≡ n (t ∷ p)
    by_test true [] = refl
    by_test true (a ∷ q) = refl
    by_test false q = refl

made_one : (n : NodeMap) (s t : Step) (v : NodeMap) (p : Path) → made n (s ∷ []) v (t ∷ p) ≡ cond (same_step s t) (v p) (n (t ∷ p))
made_one n s t v p = put_one (with_room n (s ∷ [])) s t v p ∙ ap (cond (same_step s t) (v p)) (room_one n s t p)

-- the label at a path of a value, if there is one
label_at : Path → Option Content → Option Label
label_at p o = option_map label_of (option_and_then (content_at p) o)

label_at-or : (p : Path) (b : Bool) (e : Content) (o : Option Content) → label_at p (cond b (Some e) o) ≡ cond b (map_of e p) (label_at p o)
unfolding label_at
label_at-or p true e o = refl
label_at-or p false e o = refl

label_at-not : (p : Path) (b : Bool) (o : Option Content) → label_at p (cond b None o) ≡ cond b None (label_at p o)
unfolding label_at
label_at-not p true o = refl
label_at-not p false o = refl

module _ {V : Type 0} (see : V → Content) where
  -- the content of some values, and of some entries
  abbrev pub items_by : List V → Items
  items_by [] = no_items
  items_by (v ∷ vs) = item (see v) (items_by vs)

  abbrev pub members_by : List (String Global × V) → Members
  members_by [] = no_members
  members_by (e ∷ es) = member (string_bytes e.0) (see e.1) (members_by es)

  -- as many elements as the list has
  pub items_len-by : (vs : List V) → items_len (items_by vs) ≡ length vs
  items_len-by [] = refl
  items_len-by (v ∷ vs) = ap suc (items_len-by vs)

  -- an element within the list, at any default
  pub get_item-by : (vs : List V) (i : ℕ) (x : V) → i < length vs → get_item i (items_by vs) ≡ Some (see (get_or vs i x))
  get_item-by [] i x h = absurd (omega arith)
  get_item-by (v ∷ vs) zero x h = refl
  get_item-by (v ∷ vs) (suc i) x h = get_item-by vs i x (omega arith)

  found_or : (b : Bool) (v : V) (rest : Option V) (d : Option Content) → d ≡ option_map see rest → cond b (Some (see v)) d ≡ option_map see (cond b (Some v) rest)
  found_or true v rest d e = refl
  found_or false v rest d e = e

  member_of : (k : Text) (es : List (String Global × V)) → get_member k (members_by es) ≡ option_map see (lookup (is_at (λ l. slice_cmp nat_cmp k (string_bytes l))) es)
  member_of k [] = refl
  member_of k (e ∷ es) =
      ap (λ (b : Bool). cond b (Some (see e.1)) (get_member k (members_by es))) (sym (is_eq-slice_cmp k (string_bytes e.0)))
      ∙ found_or (is_eq (slice_cmp nat_cmp k (string_bytes e.0))) e.1 (lookup (is_at (λ l. slice_cmp nat_cmp k (string_bytes l))) es) (get_member k (members_by es)) (member_of k es)

  -- a member is what the Rust map has under that text
  pub get_member-by : (m : BTreeMap (String Global) V) (k : Text) → get_member k (members_by m.entries) ≡ option_map see (get_by_text m k)
  get_member-by m k = member_of k m.entries

  -- elements

  get_item-set : (vs : List V) (i j : ℕ) (x : V) → i < length vs → get_item j (items_by (set vs i x)) ≡ cond (same_place i j) (Some (see x)) (get_item j (items_by vs))
  get_item-set [] i j x h = absurd (omega arith)
  get_item-set (v ∷ vs) zero zero x h = refl
  get_item-set (v ∷ vs) zero (suc j) x h = refl
  get_item-set (v ∷ vs) (suc i) zero x h = refl
  get_item-set (v ∷ vs) (suc i) (suc j) x h = get_item-set vs i j x (omega arith)

  get_item-push : (vs : List V) (j : ℕ) (x : V) → get_item j (items_by (vs ++ x ∷ [])) ≡ cond (same_place (length vs) j) (Some (see x)) (get_item j (items_by vs))
  get_item-push [] zero x = refl
  get_item-push [] (suc j) x = refl
  get_item-push (v ∷ vs) zero x = refl
  get_item-push (v ∷ vs) (suc j) x = get_item-push vs j x

  get_item-remove : (vs : List V) (i j : ℕ) → i < length vs → get_item j (items_by (take i vs ++ drop (suc i) vs)) ≡ get_item (place_before i j) (items_by vs)
  get_item-remove [] i j h = absurd (omega arith)
  get_item-remove (v ∷ vs) zero j h = refl
  get_item-remove (v ∷ vs) (suc i) zero h = refl
  get_item-remove (v ∷ vs) (suc i) (suc j) h = get_item-remove vs i j (omega arith)

  len-set : (vs : List V) (i : ℕ) (x : V) → items_len (items_by (set vs i x)) ≡ items_len (items_by vs)
  len-set [] i x = refl
  len-set (v ∷ vs) zero x = refl
  len-set (v ∷ vs) (suc i) x = ap suc (len-set vs i x)

  len-push : (vs : List V) (x : V) → items_len (items_by (vs ++ x ∷ [])) ≡ suc (items_len (items_by vs))
  len-push [] x = refl
  len-push (v ∷ vs) x = ap suc (len-push vs x)

  len-remove : (vs : List V) (i : ℕ) → i < length vs → items_len (items_by (take i vs ++ drop (suc i) vs)) ≡ items_len (items_by vs) - 1
  len-remove [] i h = absurd (omega arith)
  len-remove (v ∷ vs) zero h = omega arith
  len-remove (v ∷ vs) (suc i) h =
      let rest : items_len (items_by (take i vs ++ drop (suc i) vs)) ≡ items_len (items_by vs) - 1 = len-remove vs i (omega arith) in
      let long : items_len (items_by vs) ≡ length vs = items_len-by vs in
      let below : i < length vs = omega arith in
      omega arith

  module _ (Array : Vec V Global → V) (array_is : (v : Vec V Global) → see (Array v) ≡ array (items_by v.items)) where
    -- a list of values is an array node of its length
    pub map_of-Array : (v : Vec V Global) → map_of (see (Array v)) [] ≡ Some (an_array (length v.items))
    map_of-Array v = rw (array_is v) (ap (λ (len : ℕ). Some (an_array len)) (items_len-by v.items))

    -- below it, at an index within the list, is the element there
    pub content_at-Array : (v : Vec V Global) (i : ℕ) (x : V) → i < length v.items → content_at (place i ∷ []) (see (Array v)) ≡ Some (see (get_or v.items i x))
    content_at-Array v i x h = rw (array_is v) (content_at-push [] (place i) (array (items_by v.items)) (array (items_by v.items)) refl ∙ get_item-by v.items i x h)

    -- an element set
    pub map_of-set : (v w : Vec V Global) (i : ℕ) (x : V) → i < length v.items → w.items ≡ set v.items i x → map_of (see (Array w)) ≡ put (map_of (see (Array v))) (place i ∷ []) (map_of (see x))
    unfolding label_at
    map_of-set v w i x h e = ap map_of (array_is w) ∙ ap (λ (vs : List V). map_of (array (items_by vs))) e ∙ fun_ext at ∙ sym (ap (λ (d : Content). put (map_of d) (place i ∷ []) (map_of (see x))) (array_is v))
      where
        at : (p : Path) → map_of (array (items_by (set v.items i x))) p ≡ put (map_of (array (items_by v.items))) (place i ∷ []) (map_of (see x)) p
        at [] = ap (λ (len : ℕ). Some (an_array len)) (len-set v.items i x)
        at (key k ∷ p) = refl
        at (place j ∷ p) = ap (label_at p) (get_item-set v.items i j x h) ∙ label_at-or p (same_place i j) (see x) (get_item j (items_by v.items)) ∙ sym (put_one (map_of (array (items_by v.items))) (place i) (place j) (map_of (see x)) p)

    -- an element appended
    pub map_of-push : (v w : Vec V Global) (x : V) → w.items ≡ v.items ++ x ∷ [] → map_of (see (Array w)) ≡ made (map_of (see (Array v))) (place (length v.items) ∷ []) (map_of (see x))
    unfolding label_at
    map_of-push v w x e = ap map_of (array_is w) ∙ ap (λ (vs : List V). map_of (array (items_by vs))) e ∙ fun_ext at ∙ sym (ap (λ (d : Content). made (map_of d) (place (length v.items) ∷ []) (map_of (see x))) (array_is v))
      where
        longer : items_len (items_by (v.items ++ x ∷ [])) ≡ max (items_len (items_by v.items)) (suc (length v.items))
        longer =
            let more : items_len (items_by (v.items ++ x ∷ [])) ≡ suc (items_len (items_by v.items)) = len-push v.items x in
            let long : items_len (items_by v.items) ≡ length v.items = items_len-by v.items in
            omega arith

        at : (p : Path) → map_of (array (items_by (v.items ++ x ∷ []))) p ≡ made (map_of (array (items_by v.items))) (place (length v.items) ∷ []) (map_of (see x)) p
        at [] = ap (λ (len : ℕ). Some (an_array len)) longer
        at (key k ∷ p) = refl
        at (place j ∷ p) = ap (label_at p) (get_item-push v.items j x) ∙ label_at-or p (same_place (length v.items) j) (see x) (get_item j (items_by v.items)) ∙ sym (made_one (map_of (array (items_by v.items))) (place (length v.items)) (place j) (map_of (see x)) p)

    -- an element removed
    pub map_of-remove : (v w : Vec V Global) (i : ℕ) → i < length v.items → w.items ≡ remove v.items i → map_of (see (Array w)) ≡ without_step (place i) (map_of (see (Array v)))
    unfolding label_at
    map_of-remove v w i h e = ap map_of (array_is w) ∙ ap (λ (vs : List V). map_of (array (items_by vs))) e ∙ fun_ext at ∙ sym (ap (λ (d : Content). without_step (place i) (map_of d)) (array_is v))
      where
        at : (p : Path) → map_of (array (items_by (remove v.items i))) p ≡ without_step (place i) (map_of (array (items_by v.items))) p
        at [] = ap (λ (len : ℕ). Some (an_array len)) (len-remove v.items i h)
        at (key k ∷ p) = refl
        at (place j ∷ p) = ap (label_at p) (get_item-remove v.items i j h)

    -- an element alone
    pub map_of-one_element : (v : Vec V Global) (x : V) → v.items ≡ x ∷ [] → map_of (see (Array v)) ≡ with_one (an_array 1) (place 0) (map_of (see x))
    map_of-one_element v x e = ap map_of (array_is v) ∙ ap (λ (vs : List V). map_of (array (items_by vs))) e ∙ fun_ext at
      where
        at : (p : Path) → map_of (array (items_by (x ∷ []))) p ≡ with_one (an_array 1) (place 0) (map_of (see x)) p
        at [] = refl
        at (key k ∷ p) = refl
        at (place zero ∷ p) = refl
        at (place (suc j) ∷ p) = refl

  module _ (Object : BTreeMap (String Global) V → V) (object_is : (m : BTreeMap (String Global) V) → see (Object m) ≡ object (members_by m.entries)) where
    -- a map of values is an object node
    pub map_of-Object : (m : BTreeMap (String Global) V) → map_of (see (Object m)) [] ≡ Some an_object
    map_of-Object m = rw (object_is m) refl

    -- below it, at a key, is what the map has there
    pub content_at-Object : (m : BTreeMap (String Global) V) (k : Text) → content_at (key k ∷ []) (see (Object m)) ≡ option_map see (get_by_text m k)
    content_at-Object m k = rw (object_is m) (content_at-push [] (key k) (object (members_by m.entries)) (object (members_by m.entries)) refl ∙ get_member-by m k)

    -- and no node where the map has no value
    pub map_of-Object_none : (m : BTreeMap (String Global) V) (k : Text) → get_by_text m k ≡ None → map_of (see (Object m)) (key k ∷ []) ≡ None
    map_of-Object_none m k e = ap (option_map label_of) (content_at-Object m k ∙ ap (option_map see) e)

    -- a member set or added
    pub map_of-insert : (m n : BTreeMap (String Global) V) (k : Text) (x : V) → ((q : Text) → get_by_text n q ≡ update bytes_eq (get_by_text m) k (Some x) q) → map_of (see (Object n)) ≡ put (map_of (see (Object m))) (key k ∷ []) (map_of (see x))
    unfolding label_at
    map_of-insert m n k x h = ap map_of (object_is n) ∙ fun_ext at ∙ sym (ap (λ (d : Content). put (map_of d) (key k ∷ []) (map_of (see x))) (object_is m))
      where
        some_view : (b : Bool) (o : Option V) → option_map see (cond b (Some x) o) ≡ cond b (Some (see x)) (option_map see o)
        some_view true o = refl
        some_view false o = refl

        at : (p : Path) → map_of (object (members_by n.entries)) p ≡ put (map_of (object (members_by m.entries))) (key k ∷ []) (map_of (see x)) p
        at [] = refl
        at (key q ∷ p) = ap (label_at p) (get_member-by n q ∙ ap (option_map see) (h q) ∙ some_view (bytes_eq k q) (get_by_text m q) ∙ ap (cond (bytes_eq k q) (Some (see x))) (sym (get_member-by m q))) ∙ label_at-or p (bytes_eq k q) (see x) (get_member q (members_by m.entries)) ∙ sym (put_one (map_of (object (members_by m.entries))) (key k) (key q) (map_of (see x)) p)
        at (place j ∷ p) = refl

    -- a member removed
    pub map_of-remove_member : (m n : BTreeMap (String Global) V) (k : Text) → ((q : Text) → get_by_text n q ≡ update bytes_eq (get_by_text m) k None q) → map_of (see (Object n)) ≡ without_step (key k) (map_of (see (Object m)))
    unfolding label_at
    map_of-remove_member m n k h = ap map_of (object_is n) ∙ fun_ext at ∙ sym (ap (λ (d : Content). without_step (key k) (map_of d)) (object_is m))
      where
        no_view : (b : Bool) (o : Option V) → option_map see (cond b None o) ≡ cond b None (option_map see o)
        no_view true o = refl
        no_view false o = refl

        at : (p : Path) → map_of (object (members_by n.entries)) p ≡ without_step (key k) (map_of (object (members_by m.entries))) p
        at [] = refl
        at (key q ∷ p) = ap (label_at p) (get_member-by n q ∙ ap (option_map see) (h q) ∙ no_view (bytes_eq k q) (get_by_text m q) ∙ ap (cond (bytes_eq k q) None) (sym (get_member-by m q))) ∙ label_at-not p (bytes_eq k q) (get_member q (members_by m.entries))
        at (place j ∷ p) = refl

    -- a member alone
    pub map_of-one_member : (n : BTreeMap (String Global) V) (k : Text) (x : V) → ((q : Text) → get_by_text n q ≡ cond (bytes_eq k q) (Some x) None) → map_of (see (Object n)) ≡ with_one an_object (key k) (map_of (see x))
    unfolding label_at
    map_of-one_member n k x h = ap map_of (object_is n) ∙ fun_ext at
      where
        some_view : (b : Bool) → option_map see (cond b (Some x) None) ≡ cond b (Some (see x)) None
        some_view true = refl
        some_view false = refl

        at : (p : Path) → map_of (object (members_by n.entries)) p ≡ with_one an_object (key k) (map_of (see x)) p
        at [] = refl
        at (key q ∷ p) = ap (label_at p) (get_member-by n q ∙ ap (option_map see) (h q) ∙ some_view (bytes_eq k q)) ∙ label_at-or p (bytes_eq k q) (see x) None
        at (place j ∷ p) = refl
