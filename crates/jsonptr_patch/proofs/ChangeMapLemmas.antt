-- The node map of a content after a change.
use Rattle.std.proofs.Common.{◌≡◌, ℕ, zero, suc, ◌-◌, ◌≤◌, Bool, true, false, cond, Ordering, Less, Equal, Greater, nat_cmp, is_eq, bytes_eq, List, [], ◌∷◌, ◌++◌, Option, Some, None, option_and_then, option_map, ◌⊎◌, inl, inr, refl, sym, ap, ◌∙◌, subst, arith}
use mathlib.Core.Path.{fun_ext}
use Rattle.std.specs.Cmp.Lexicographic.{slice_cmp}
use Rattle.std.specs.Ordering.{match_ordering}
use Rattle.std.proofs.lemmas.Map.Text.{is_eq-slice_cmp}
use Rattle.std.proofs.lemmas.Slice.Eq.{bytes_eq-Decides}
use Rattle.serde_json.specs.Data.{null}
use Rattle.jsonptr.specs.Text.{Text}
use Rattle.jsonptr.specs.Resolve.{PutsAt}
use Rattle.jsonptr.specs.Node.{Step, key, place, Path, Label, an_array, an_object, NodeMap, sub, Names}
use Rattle.jsonptr.specs.Content.{Content, scalar, array, object, Items, no_items, item, Members, no_members, member, items_len, get_item, get_member, label_of, child, content_at, map_of, KeysAbove}
use Rattle.jsonptr.specs.Json.{nodes}
use Rattle.jsonptr.specs.Put.{same_place, same_step, put}
use Rattle.jsonptr.specs.Removing.{place_before, without_key, without_place, without_step, Deletes}
use Rattle.jsonptr_tree.proofs.ContentLemmas.{map_of-sub, content_at-push}
use Rattle.jsonptr_tree.proofs.JsonLemmas.{null_is}
use Rattle.jsonptr_tree.proofs.PutLemmas.{cases_same, put_below, same_by_step, put-step, put-other_step}
use Rattle.jsonptr_tree.proofs.RemovingLemmas.{Deletes_whole, Deletes_child}
use Rattle.jsonptr_patch_journal.specs.Writing.{write_item, write_member, write_step, write_below, write_at, At}
use Rattle.jsonptr_patch_journal.specs.Children.{insert_item, without_item, put_member, without_member, KeysRise}
use Rattle.jsonptr_patch_journal.specs.Changes.{PutsMember, PutsElement, TakesChild, TakesAt, Writes}
use Rattle.jsonptr_patch.specs.Inserting.{place_of_old, below_element, with_place}
use Rattle.jsonptr_patch.specs.Adding.{MeansPlace, AddsUnder, AddsBelow}
use Rattle.jsonptr_patch.specs.Operating.{Takes}

-- texts

other_key : (k q : Text) → bytes_eq k q ≡ false → bytes_eq q k ≡ false
other_key k q h = by_test (bytes_eq q k) refl
  where
    by_test : (b : Bool) → bytes_eq q k ≡ b → bytes_eq q k ≡ false
    by_test true is =
        let same : bytes_eq k q ≡ true = (bytes_eq-Decides k q).1 (sym ((bytes_eq-Decides q k).0 is)) in
        let no : ⊥ = cc in
        absurd no
    by_test false is = is

same_key : (k : Text) → bytes_eq k k ≡ true
same_key k = (bytes_eq-Decides k k).1 refl

-- a member or an element written

item_there : (ds : Items) (i : ℕ) (x e : Content) → get_item i ds ≡ Some e → get_item i (write_item i x ds) ≡ Some x
item_there no_items i x e h = let no : ⊥ = cc in absurd no
item_there (item d ds) zero x e h = refl
item_there (item d ds) (suc i) x e h = item_there ds i x e h

item_other : (ds : Items) (i j : ℕ) (x : Content) → same_place i j ≡ false → get_item j (write_item i x ds) ≡ get_item j ds
item_other no_items i j x h = refl
item_other (item d ds) zero zero x h = let no : ⊥ = cc in absurd no
item_other (item d ds) zero (suc j) x h = refl
item_other (item d ds) (suc i) zero x h = refl
item_other (item d ds) (suc i) (suc j) x h = item_other ds i j x h

item_len : (ds : Items) (i : ℕ) (x : Content) → items_len (write_item i x ds) ≡ items_len ds
item_len no_items i x = refl
item_len (item d ds) zero x = refl
item_len (item d ds) (suc i) x = ap suc (item_len ds i x)

member_there : (ms : Members) (k : Text) (x e : Content) → get_member k ms ≡ Some e → get_member k (write_member k x ms) ≡ Some x
member_there no_members k x e h = let no : ⊥ = cc in absurd no
member_there (member l d ms) k x e h = by_test (member_there ms k x e) (bytes_eq k l) refl h
  where
    by_test : (get_member k ms ≡ Some e → get_member k (write_member k x ms) ≡ Some x) → (t : Bool) → bytes_eq k l ≡ t → cond t (Some d) (get_member k ms) ≡ Some e → get_member k (cond t (member l x ms) (member l d (write_member k x ms))) ≡ Some x
    by_test later true is g = ap (λ (t : Bool). cond t (Some x) (get_member k ms)) is
    by_test later false is g = ap (λ (t : Bool). cond t (Some d) (get_member k (write_member k x ms))) is ∙ later g

member_other : (ms : Members) (k q : Text) (x : Content) → bytes_eq k q ≡ false → get_member q (write_member k x ms) ≡ get_member q ms
member_other no_members k q x h = refl
member_other (member l d ms) k q x h = by_test (member_other ms k q x h) (bytes_eq k l) refl (bytes_eq q l) refl
  where
    by_test : get_member q (write_member k x ms) ≡ get_member q ms → (a : Bool) → bytes_eq k l ≡ a → (b : Bool) → bytes_eq q l ≡ b → get_member q (cond a (member l x ms) (member l d (write_member k x ms))) ≡ get_member q (member l d ms)
    by_test later true is true also =
        let one : k ≡ q = (bytes_eq-Decides k l).0 is ∙ sym ((bytes_eq-Decides q l).0 also) in
        let same : bytes_eq k q ≡ true = (bytes_eq-Decides k q).1 one in
        let no : ⊥ = cc in
        absurd no
    by_test later true is false not =
        ap (λ (b : Bool). cond b (Some x) (get_member q ms)) not ∙ sym (ap (λ (b : Bool). cond b (Some d) (get_member q ms)) not)
    by_test later false is b also = ap (cond (bytes_eq q l) (Some d)) later

step_there : (s : Step) (x e d : Content) → child s d ≡ Some e → child s (write_step s x d) ≡ Some x
step_there s x e (scalar v) h = let no : ⊥ = cc in absurd no
step_there (key k) x e (array ds) h = let no : ⊥ = cc in absurd no
step_there (place i) x e (array ds) h = item_there ds i x e h
step_there (key k) x e (object ms) h = member_there ms k x e h
step_there (place i) x e (object ms) h = let no : ⊥ = cc in absurd no

step_other : (t s : Step) (x d : Content) → same_step t s ≡ false → child s (write_step t x d) ≡ child s d
step_other t s x (scalar v) h = refl
step_other (key k) s x (array ds) h = refl
step_other (place i) (key q) x (array ds) h = refl
step_other (place i) (place j) x (array ds) h = item_other ds i j x h
step_other (key k) (key q) x (object ms) h = member_other ms k q x h
step_other (key k) (place j) x (object ms) h = refl
step_other (place i) s x (object ms) h = refl

step_root : (t : Step) (x d : Content) → map_of (write_step t x d) [] ≡ map_of d []
step_root t x (scalar v) = refl
step_root (key k) x (array ds) = refl
step_root (place i) x (array ds) = ap (λ (n : ℕ). Some (an_array n)) (item_len ds i x)
step_root (key k) x (object ms) = refl
step_root (place i) x (object ms) = refl

at_one : (t : Step) (d e : Content) → child t d ≡ Some e → content_at (t ∷ []) d ≡ Some e
at_one t d e h = content_at-push [] t d d refl ∙ h

-- a content that has `x` at the step `t`, and else the children and the label of `d`
map-child : (t : Step) (x d made : Content) → map_of made [] ≡ map_of d [] → child t made ≡ Some x → ((s : Step) → same_step t s ≡ false → child s made ≡ child s d) → map_of made ≡ put (map_of d) (t ∷ []) (map_of x)
map-child t x d made root there others = same_by_step (map_of made) (put (map_of d) (t ∷ []) (map_of x)) root below
  where
    below : (s : Step) → sub (map_of made) (s ∷ []) ≡ sub (put (map_of d) (t ∷ []) (map_of x)) (s ∷ [])
    below s = by_case (cases_same t s)
      where
        by_case : (t ≡ s) ⊎ (same_step t s ≡ false) → sub (map_of made) (s ∷ []) ≡ sub (put (map_of d) (t ∷ []) (map_of x)) (s ∷ [])
        by_case (inl same) = subst (λ (u : Step). sub (map_of made) (u ∷ []) ≡ sub (put (map_of d) (t ∷ []) (map_of x)) (u ∷ [])) same (sym (map_of-sub (t ∷ []) made x (at_one t made x there)) ∙ sym (put-step (map_of d) t [] (map_of x)))
        by_case (inr other) = fun_ext (λ (p : Path). ap (λ (o : Option Content). option_map label_of (option_and_then (content_at p) o)) (others s other)) ∙ sym (put-other_step (map_of d) t s [] (map_of x) other)

map-step : (t : Step) (x e d : Content) → child t d ≡ Some e → map_of (write_step t x d) ≡ put (map_of d) (t ∷ []) (map_of x)
map-step t x e d h = map-child t x d (write_step t x d) (step_root t x d) (step_there t x e d h) (λ s other. step_other t s x d other)

-- what is written at a path is put there in the map
pub map-write : (p : Path) (c e d : Content) → content_at p d ≡ Some e → map_of (write_at p c d) ≡ put (map_of d) p (map_of c)
map-write [] c e d h = refl
map-write (t ∷ p) c e d h = below (λ g. map-write p c e g) (child t d) refl h
  where
    below : ((g : Content) → content_at p g ≡ Some e → map_of (write_at p c g) ≡ put (map_of g) p (map_of c)) → (o : Option Content) → child t d ≡ o → option_and_then (content_at p) o ≡ Some e → map_of (write_below t (write_at p c) d o) ≡ put (map_of d) (t ∷ p) (map_of c)
    below later None is h = let no : ⊥ = cc in absurd no
    below later (Some g) is h =
        map-step t (write_at p c g) g d is
        ∙ ap (put (map_of d) (t ∷ [])) (later g h ∙ ap (λ (n : NodeMap). put n p (map_of c)) (map_of-sub (t ∷ []) d g (at_one t d g is)))
        ∙ sym (put_below (map_of d) (t ∷ []) p (map_of c))

-- a change at a path

module _ (w : Path) (R : Content → Content → Type 0) (c d : Content) (a : At w R c d) where
  pub change_made : map_of d ≡ put (map_of c) w (map_of a.new)
  change_made = ap map_of a.made ∙ map-write w a.new a.old c a.there

  pub change_was : map_of a.old ≡ sub (map_of c) w
  change_was = map_of-sub w c a.old a.there

  pub change_label : map_of c w ≡ Some (label_of a.old)
  change_label = ap (option_map label_of) a.there

-- a member put

get-put_same : (k : Text) (v : Content) (ms : Members) → get_member k (put_member k v ms) ≡ Some v
get-put_same k v no_members = ap (λ (b : Bool). cond b (Some v) None) (same_key k)
get-put_same k v (member l d ms) = by_order (get-put_same k v ms) (slice_cmp nat_cmp k l) refl
  where
    by_order : get_member k (put_member k v ms) ≡ Some v → (o : Ordering) → slice_cmp nat_cmp k l ≡ o → get_member k (match_ordering o (member k v (member l d ms)) (member l v ms) (member l d (put_member k v ms))) ≡ Some v
    by_order later Less is = ap (λ (b : Bool). cond b (Some v) (get_member k (member l d ms))) (same_key k)
    by_order later Equal is =
        let same : bytes_eq k l ≡ true = sym (is_eq-slice_cmp k l) ∙ ap is_eq is in
        ap (λ (b : Bool). cond b (Some v) (get_member k ms)) same
    by_order later Greater is =
        let other : bytes_eq k l ≡ false = sym (is_eq-slice_cmp k l) ∙ ap is_eq is in
        ap (λ (b : Bool). cond b (Some d) (get_member k (put_member k v ms))) other ∙ later

get-put_other : (k q : Text) (v : Content) (ms : Members) → bytes_eq k q ≡ false → get_member q (put_member k v ms) ≡ get_member q ms
get-put_other k q v no_members h = ap (λ (b : Bool). cond b (Some v) None) (other_key k q h)
get-put_other k q v (member l d ms) h = by_order (get-put_other k q v ms h) (slice_cmp nat_cmp k l) refl
  where
    by_order : get_member q (put_member k v ms) ≡ get_member q ms → (o : Ordering) → slice_cmp nat_cmp k l ≡ o → get_member q (match_ordering o (member k v (member l d ms)) (member l v ms) (member l d (put_member k v ms))) ≡ get_member q (member l d ms)
    by_order later Less is = ap (λ (b : Bool). cond b (Some v) (get_member q (member l d ms))) (other_key k q h)
    by_order later Equal is =
        let one : k ≡ l = (bytes_eq-Decides k l).0 (sym (is_eq-slice_cmp k l) ∙ ap is_eq is) in
        let other : bytes_eq q l ≡ false = subst (λ (t : Text). bytes_eq q t ≡ false) one (other_key k q h) in
        ap (λ (b : Bool). cond b (Some v) (get_member q ms)) other ∙ sym (ap (λ (b : Bool). cond b (Some d) (get_member q ms)) other)
    by_order later Greater is = ap (cond (bytes_eq q l) (Some d)) later

map-put : (k : Text) (v : Content) (ms : Members) → map_of (object (put_member k v ms)) ≡ put (map_of (object ms)) (key k ∷ []) (map_of v)
map-put k v ms = map-child (key k) v (object ms) (object (put_member k v ms)) refl (get-put_same k v ms) others
  where
    others : (s : Step) → same_step (key k) s ≡ false → child s (object (put_member k v ms)) ≡ child s (object ms)
    others (key q) h = get-put_other k q v ms h
    others (place i) h = refl

module _ (w : Path) (k : Text) (v c d : Content) (a : At w (PutsMember k v) c d) where
  pub member_at_object : map_of c w ≡ Some an_object
  member_at_object = change_label w (PutsMember k v) c d a ∙ ap (λ (e : Content). Some (label_of e)) a.related.object_is

  pub member_put : map_of d ≡ put (map_of c) (w ++ key k ∷ []) (map_of v)
  member_put =
      change_made w (PutsMember k v) c d a
      ∙ ap (put (map_of c) w) (ap map_of a.related.made ∙ map-put k v a.related.ms ∙ ap (λ (n : NodeMap). put n (key k ∷ []) (map_of v)) (sym (ap map_of a.related.object_is) ∙ change_was w (PutsMember k v) c d a))
      ∙ sym (put_below (map_of c) w (key k ∷ []) (map_of v))

  -- it is an addition
  pub adds_member : (tokens front : List Text) → tokens ≡ front ++ k ∷ [] → Names (map_of c) front w → AddsBelow (map_of c) tokens (map_of v) (map_of d)
  adds_member tokens front split named = record {
    front = front;
    last = k;
    path = w;
    split = split;
    named = named;
    made = subst (λ (l : Option Label). AddsUnder (map_of c) w l k (map_of v) (map_of d)) (sym member_at_object) member_put;
  }

-- a member removed

above_none : (k : Text) (ms : Members) → KeysAbove k ms → get_member k ms ≡ None
above_none k no_members h = refl
above_none k (member l d ms) h =
    let other : bytes_eq k l ≡ false = sym (is_eq-slice_cmp k l) ∙ ap is_eq h.0 in
    ap (λ (b : Bool). cond b (Some d) (get_member k ms)) other ∙ above_none k ms h.1

get-without_same : (k : Text) (ms : Members) → KeysRise ms → get_member k (without_member k ms) ≡ None
get-without_same k no_members h = refl
get-without_same k (member l d ms) h = by_test (get-without_same k ms h.1) (bytes_eq k l) refl
  where
    by_test : get_member k (without_member k ms) ≡ None → (b : Bool) → bytes_eq k l ≡ b → get_member k (cond b ms (member l d (without_member k ms))) ≡ None
    by_test later true is = above_none k ms (subst (λ (t : Text). KeysAbove t ms) (sym ((bytes_eq-Decides k l).0 is)) h.0)
    by_test later false is = ap (λ (b : Bool). cond b (Some d) (get_member k (without_member k ms))) is ∙ later

get-without_other : (k q : Text) (ms : Members) → bytes_eq k q ≡ false → get_member q (without_member k ms) ≡ get_member q ms
get-without_other k q no_members h = refl
get-without_other k q (member l d ms) h = by_test (get-without_other k q ms h) (bytes_eq k l) refl
  where
    by_test : get_member q (without_member k ms) ≡ get_member q ms → (b : Bool) → bytes_eq k l ≡ b → get_member q (cond b ms (member l d (without_member k ms))) ≡ get_member q (member l d ms)
    by_test later true is =
        let other : bytes_eq q l ≡ false = subst (λ (t : Text). bytes_eq q t ≡ false) ((bytes_eq-Decides k l).0 is) (other_key k q h) in
        sym (ap (λ (b : Bool). cond b (Some d) (get_member q ms)) other)
    by_test later false is = ap (cond (bytes_eq q l) (Some d)) later

seen : Path → Option Content → Option Label
seen p o = option_map label_of (option_and_then (content_at p) o)

map-without : (k : Text) (ms : Members) → KeysRise ms → map_of (object (without_member k ms)) ≡ without_key k (map_of (object ms))
unfolding seen
map-without k ms rise = fun_ext go
  where
    go : (p : Path) → map_of (object (without_member k ms)) p ≡ without_key k (map_of (object ms)) p
    go [] = refl
    go (key q ∷ p) = by_test (bytes_eq k q) refl
      where
        by_test : (b : Bool) → bytes_eq k q ≡ b → seen p (get_member q (without_member k ms)) ≡ cond (bytes_eq k q) None (seen p (get_member q ms))
        by_test true is =
            let one : k ≡ q = (bytes_eq-Decides k q).0 is in
            ap (seen p) (subst (λ (t : Text). get_member t (without_member k ms) ≡ None) one (get-without_same k ms rise))
            ∙ sym (ap (λ (b : Bool). cond b None (seen p (get_member q ms))) is)
        by_test false is = ap (seen p) (get-without_other k q ms is) ∙ sym (ap (λ (b : Bool). cond b None (seen p (get_member q ms))) is)
    go (place i ∷ p) = refl

-- an element inserted

new_or_old : Option ℕ → Content → Items → Option Content
new_or_old None d ds = Some d
new_or_old (Some k) d ds = get_item k ds

get-insert : (ds : Items) (i j : ℕ) (x : Content) → i ≤ items_len ds → get_item j (insert_item i x ds) ≡ new_or_old (place_of_old i j) x ds
unfolding new_or_old
get-insert no_items zero zero x h = refl
get-insert no_items zero (suc j) x h = refl
get-insert no_items (suc i) j x h = absurd (omega arith)
get-insert (item d ds) zero zero x h = refl
get-insert (item d ds) zero (suc j) x h = refl
get-insert (item d ds) (suc i) zero x h = refl
get-insert (item d ds) (suc i) (suc j) x h = get-insert ds i j x (omega arith) ∙ step (place_of_old i j)
  where
    step : (o : Option ℕ) → new_or_old o x ds ≡ new_or_old (option_map suc o) x (item d ds)
    step None = refl
    step (Some k) = refl

len-insert : (ds : Items) (i : ℕ) (x : Content) → i ≤ items_len ds → items_len (insert_item i x ds) ≡ suc (items_len ds)
len-insert no_items zero x h = refl
len-insert no_items (suc i) x h = absurd (omega arith)
len-insert (item d ds) zero x h = refl
len-insert (item d ds) (suc i) x h = ap suc (len-insert ds i x (omega arith))

map-insert : (i : ℕ) (x : Content) (ds : Items) → i ≤ items_len ds → map_of (array (insert_item i x ds)) ≡ with_place i (map_of x) (map_of (array ds))
unfolding new_or_old seen
map-insert i x ds h = fun_ext at
  where
    by_place : (p : Path) (o : Option ℕ) → seen p (new_or_old o x ds) ≡ below_element o (map_of x) (map_of (array ds)) p
    by_place p None = refl
    by_place p (Some k) = refl

    at : (p : Path) → map_of (array (insert_item i x ds)) p ≡ with_place i (map_of x) (map_of (array ds)) p
    at [] = ap (λ (len : ℕ). Some (an_array len)) (len-insert ds i x h)
    at (key k ∷ p) = refl
    at (place j ∷ p) = ap (seen p) (get-insert ds i j x h) ∙ by_place p (place_of_old i j)

module _ (w : Path) (i : ℕ) (v c d : Content) (a : At w (PutsElement i v) c d) where
  element_put : map_of d ≡ put (map_of c) w (with_place i (map_of v) (sub (map_of c) w))
  element_put =
      change_made w (PutsElement i v) c d a
      ∙ ap (put (map_of c) w) (ap map_of a.related.made ∙ map-insert i v a.related.ds a.related.within ∙ ap (with_place i (map_of v)) (sym (ap map_of a.related.array_is) ∙ change_was w (PutsElement i v) c d a))

  -- it is an addition
  pub adds_element : (front : List Text) (x : Text) (len : ℕ) → Names (map_of c) front w → map_of c w ≡ Some (an_array len) → MeansPlace len x i → AddsBelow (map_of c) (front ++ x ∷ []) (map_of v) (map_of d)
  adds_element front x len named array_at means = record {
    front = front;
    last = x;
    path = w;
    split = refl;
    named = named;
    made = subst (λ (l : Option Label). AddsUnder (map_of c) w l x (map_of v) (map_of d)) (sym array_at) (i, means, element_put);
  }

-- an element removed

get-removed : (ds : Items) (i j : ℕ) → get_item j (without_item i ds) ≡ get_item (place_before i j) ds
get-removed no_items zero j = refl
get-removed no_items (suc i) j = refl
get-removed (item d ds) zero j = refl
get-removed (item d ds) (suc i) zero = refl
get-removed (item d ds) (suc i) (suc j) = get-removed ds i j

some_len : (ds : Items) (i : ℕ) (e : Content) → get_item i ds ≡ Some e → suc i ≤ items_len ds
some_len no_items i e h = let no : ⊥ = cc in absurd no
some_len (item d ds) zero e h = omega arith
some_len (item d ds) (suc i) e h = let below = some_len ds i e h in omega arith

len-removed : (ds : Items) (i : ℕ) (e : Content) → get_item i ds ≡ Some e → items_len (without_item i ds) ≡ items_len ds - 1
len-removed no_items i e h = let no : ⊥ = cc in absurd no
len-removed (item d ds) zero e h = omega arith
len-removed (item d ds) (suc i) e h =
    let less : items_len (without_item i ds) ≡ items_len ds - 1 = len-removed ds i e h in
    let some : suc i ≤ items_len ds = some_len ds i e h in
    omega arith

map-removed : (i : ℕ) (e : Content) (ds : Items) → get_item i ds ≡ Some e → map_of (array (without_item i ds)) ≡ without_place i (map_of (array ds))
unfolding seen
map-removed i e ds h = fun_ext at
  where
    at : (p : Path) → map_of (array (without_item i ds)) p ≡ without_place i (map_of (array ds)) p
    at [] = ap (λ (len : ℕ). Some (an_array len)) (len-removed ds i e h)
    at (key k ∷ p) = refl
    at (place j ∷ p) = ap (seen p) (get-removed ds i j)

-- a child removed

map-child_removed : (s : Step) (v c d : Content) → TakesChild s v c d → map_of d ≡ without_step s (map_of c)
map-child_removed (key k) v c d t = ap map_of t.made ∙ map-without k t.ms t.rise ∙ ap (λ (e : Content). without_key k (map_of e)) (sym t.object_is)
map-child_removed (place i) v c d t = ap map_of t.made ∙ map-removed i v t.ds t.found ∙ ap (λ (e : Content). without_place i (map_of e)) (sym t.array_is)

child_was : (s : Step) (v c d : Content) → TakesChild s v c d → child s c ≡ Some v
child_was (key k) v c d t = ap (child (key k)) t.object_is ∙ t.found
child_was (place i) v c d t = ap (child (place i)) t.array_is ∙ t.found

module _ (u : Path) (s : Step) (v c d : Content) (a : At u (TakesChild s v) c d) where
  child_taken : map_of d ≡ put (map_of c) u (without_step s (sub (map_of c) u))
  child_taken = change_made u (TakesChild s v) c d a ∙ ap (put (map_of c) u) (map-child_removed s v a.old a.new a.related ∙ ap (without_step s) (change_was u (TakesChild s v) c d a))

  pub child_at : content_at (u ++ s ∷ []) c ≡ Some v
  child_at = content_at-push u s c a.old a.there ∙ child_was s v a.old a.new a.related

-- what is removed, from a node or as the whole content
pub takes_node : (w : Path) (v c d : Content) (tokens : List Text) → TakesAt w v c d → Names (map_of c) tokens w → Takes (map_of c) tokens (map_of v) (map_of d)
takes_node w v c d tokens (inl r) named = record {
  found = record { path = w; named = named; below = sym (ap map_of r.1) ∙ sym (ap (sub (map_of c)) r.0) };
  left = whole tokens (subst (λ (p : Path). Names (map_of c) tokens p) r.0 named);
}
  where
    blank : map_of d ≡ nodes null
    blank = ap map_of (r.2 ∙ null_is)

    whole : (ts : List Text) → Names (map_of c) ts [] → Deletes (map_of c) ts (nodes null) (map_of d)
    whole [] h = subst (λ (m : NodeMap). Deletes (map_of c) [] (nodes null) m) (sym blank) (Deletes_whole (map_of c) (nodes null) h)
    whole (x ∷ xs) h = absurd h
takes_node w v c d tokens (inr r) named = record {
  found = record { path = w; named = named; below = map_of-sub w c v (ap (λ (p : Path). content_at p c) r.2 ∙ child_at r.0 r.1 v c d r.3) };
  left = subst (λ (m : NodeMap). Deletes (map_of c) tokens (nodes null) m) (sym (child_taken r.0 r.1 v c d r.3)) (Deletes_child (map_of c) (nodes null) tokens r.0 r.1 (subst (λ (p : Path). Names (map_of c) tokens p) r.2 named));
}

-- what is replaced
pub puts_value : (w : Path) (v c d : Content) (tokens : List Text) → At w (Writes v) c d → Names (map_of c) tokens w → PutsAt (map_of c) tokens (map_of v) (map_of d)
puts_value w v c d tokens a named = record {
  path = w;
  named = named;
  made = change_made w (Writes v) c d a ∙ ap (λ (e : Content). put (map_of c) w (map_of e)) a.related;
}
