-- The node map of what a value holds: below a path, as a tree, and as a finite map.
use Rattle.std.proofs.Common.{◌≡◌, ℕ, zero, suc, ◌+◌, ◌<◌, Bool, true, false, cond, bytes_eq, map, Contains, List, [], ◌∷◌, ◌++◌, Option, Some, None, IsSome, option_and_then, option_map, refl, sym, ap, ◌∙◌, subst, arith, true≢false}
use mathlib.Core.Path.{fun_ext}
use Rattle.std.proofs.lemmas.List.Elements.{Contains-append_left, Contains-append_right}
use Rattle.std.proofs.lemmas.Slice.Eq.{bytes_eq-Decides}
use Rattle.jsonptr_grammar.specs.Text.{Text}
use Rattle.jsonptr_tree.specs.Node.{Step, key, place, Path, an_array, sub, MayHave, IsTree, IsListed}
use Rattle.jsonptr_tree.specs.Following.{Finds}
use Rattle.jsonptr_tree.specs.Content.{Content, scalar, array, object, Items, no_items, item, Members, no_members, member, items_len, get_item, get_member, label_of, child, content_at, map_of, FindsContent}
use Rattle.jsonptr_tree.proofs.NodeLemmas.{Names_one_path}
use Rattle.jsonptr_tree.proofs.ListedLemmas.{Contains-cons, Contains-map}

-- below a path

and_then_from : {A : Type 0} (f g h : A → Option A) → ((a : A) → f a ≡ option_and_then h (g a)) → (o : Option A) → option_and_then f o ≡ option_and_then h (option_and_then g o)
and_then_from f g h e None = refl
and_then_from f g h e (Some a) = e a

-- the content at a path below a path
pub content_at-append : (w v : Path) (d : Content) → content_at (w ++ v) d ≡ option_and_then (content_at v) (content_at w d)
content_at-append [] v d = refl
content_at-append (s ∷ w) v d = and_then_from (content_at (w ++ v)) (content_at w) (content_at v) (content_at-append w v) (child s d)

-- the same where there is content at the path
pub content_at-below : (w v : Path) (d e : Content) → content_at w d ≡ Some e → content_at (w ++ v) d ≡ content_at v e
content_at-below w v d e h = content_at-append w v d ∙ ap (option_and_then (content_at v)) h

-- the content one step below a path
pub content_at-push : (w : Path) (s : Step) (d e : Content) → content_at w d ≡ Some e → content_at (w ++ s ∷ []) d ≡ child s e
content_at-push w s d e h = content_at-below w (s ∷ []) d e h ∙ and_then_some (child s e)
  where
    and_then_some : (o : Option Content) → option_and_then (content_at []) o ≡ o
    and_then_some None = refl
    and_then_some (Some a) = refl

-- the map of the content at a path is the map below the path
pub map_of-sub : (w : Path) (d e : Content) → content_at w d ≡ Some e → map_of e ≡ sub (map_of d) w
map_of-sub w d e h = fun_ext (λ (p : Path). ap (option_map label_of) (sym (content_at-below w p d e h)))

-- where the map has a node there is content
pub content_at-there : (w : Path) (d : Content) → IsSome (map_of d w) → (e : Content) × (content_at w d ≡ Some e)
content_at-there w d h = there (content_at w d) h
  where
    there : (o : Option Content) → IsSome (option_map label_of o) → (e : Content) × (o ≡ Some e)
    there None h = absurd (true≢false (sym h))
    there (Some e) h = (e, refl)

-- the content that tokens find has the map that they find
pub FindsContent-Finds : (d : Content) (tokens : List Text) (e : Content) → FindsContent d tokens e → Finds (map_of d) tokens (map_of e)
FindsContent-Finds d tokens e h = record { path = h.path; named = h.named; below = map_of-sub h.path d e h.there }

-- tokens find one content
pub FindsContent_one : (d : Content) (tokens : List Text) (e f : Content) → FindsContent d tokens e → FindsContent d tokens f → e ≡ f
FindsContent_one d tokens e f h k =
    let same : h.path ≡ k.path = Names_one_path (map_of d) tokens h.path k.path h.named k.named in
    let both : Some e ≡ Some f = sym h.there ∙ ap (λ (w : Path). content_at w d) same ∙ k.there in
    cc both

-- if each child is what some value holds, then so is the content at each path
pub content_at-of : {D : Type 0} (content : D → Content) → ((s : Step) (d : D) (c : Content) → child s (content d) ≡ Some c → (e : D) × (c ≡ content e)) → (w : Path) (d : D) (c : Content) → content_at w (content d) ≡ Some c → (e : D) × (c ≡ content e)
content_at-of content of_child [] d c h = let same : c ≡ content d = cc in (d, same)
content_at-of {D} content of_child (s ∷ w) d c h = below (λ e. content_at-of content of_child w e c) (child s (content d)) refl h
  where
    below : ((e : D) → content_at w (content e) ≡ Some c → (f : D) × (c ≡ content f)) → (o : Option Content) → child s (content d) ≡ o → option_and_then (content_at w) o ≡ Some c → (e : D) × (c ≡ content e)
    below later None is g = let none : ⊥ = cc in absurd none
    below later (Some b) is g =
        let there = of_child s d b is in
        later there.0 (subst (λ (x : Content). content_at w x ≡ Some c) there.1 g)

-- as a tree

get_item_some : (ds : Items) (i : ℕ) → IsSome (option_map label_of (get_item i ds)) → i < items_len ds
get_item_some no_items i h = absurd (true≢false (sym h))
get_item_some (item d ds) zero h = omega arith
get_item_some (item d ds) (suc i) h =
    let below : i < items_len ds = get_item_some ds i h in
    omega arith

some_item : (ds : Items) (i : ℕ) → i < items_len ds → IsSome (option_map label_of (get_item i ds))
some_item no_items i h = absurd (omega arith)
some_item (item d ds) zero h = refl
some_item (item d ds) (suc i) h = some_item ds i (omega arith)

child_allowed : (e : Content) (s : Step) → IsSome (option_map label_of (child s e)) → MayHave (Some (label_of e)) s
child_allowed (scalar v) (key k) h = absurd (true≢false (sym h))
child_allowed (scalar v) (place i) h = absurd (true≢false (sym h))
child_allowed (array ds) (key k) h = absurd (true≢false (sym h))
child_allowed (array ds) (place i) h = get_item_some ds i h
child_allowed (object ms) (key k) h = tt
child_allowed (object ms) (place i) h = absurd (true≢false (sym h))

parent_allows : (o : Option Content) (s : Step) → IsSome (option_map label_of (option_and_then (content_at (s ∷ [])) o)) → MayHave (option_map label_of o) s
parent_allows None s h = absurd (true≢false (sym h))
parent_allows (Some e) s h = child_allowed e s (subst (λ (o : Option Content). IsSome (option_map label_of o)) (content_at-push [] s e e refl) h)

each_element : (e : Content) (len i : ℕ) → label_of e ≡ an_array len → i < len → IsSome (option_map label_of (child (place i) e))
each_element (scalar v) len i h below = cc
each_element (array ds) len i h below =
    let same : items_len ds ≡ len = cc in
    some_item ds i (omega arith)
each_element (object ms) len i h below = cc

array_is_full : (o : Option Content) (len i : ℕ) → option_map label_of o ≡ Some (an_array len) → i < len → IsSome (option_map label_of (option_and_then (content_at (place i ∷ [])) o))
array_is_full None len i h below = cc
array_is_full (Some e) len i h below =
    let same : label_of e ≡ an_array len = cc in
    subst (λ (o : Option Content). IsSome (option_map label_of o)) (sym (content_at-push [] (place i) e e refl)) (each_element e len i same below)

-- every map is a tree
pub map_of-IsTree : (d : Content) → IsTree (map_of d)
map_of-IsTree d = record {
  root = refl;
  parent = λ w s h. parent_allows (content_at w d) s (subst (λ (o : Option Content). IsSome (option_map label_of o)) (content_at-append w (s ∷ []) d) h);
  full = λ w len i h below. subst (λ (o : Option Content). IsSome (option_map label_of o)) (sym (content_at-append w (place i ∷ []) d)) (array_is_full (content_at w d) len i h below);
}

-- as a finite map

mutual
  -- each path
  paths : Content → List Path
  paths (scalar v) = [] ∷ []
  paths (array ds) = [] ∷ item_paths 0 ds
  paths (object ms) = [] ∷ member_paths ms

  -- of the elements from index i on
  item_paths : ℕ → Items → List Path
  item_paths i no_items = []
  item_paths i (item d ds) = map (λ (w : Path). place i ∷ w) (paths d) ++ item_paths (suc i) ds

  member_paths : Members → List Path
  member_paths no_members = []
  member_paths (member k d ms) = map (λ (w : Path). key k ∷ w) (paths d) ++ member_paths ms

no_child : {P : Type 0} (w : Path) → IsSome (option_map label_of (option_and_then (content_at w) None)) → P
no_child w h = absurd (true≢false (sym h))

in_member : (b : Bool) (k l : Text) (e : Content) (rest : Option Content) (w : Path) (here there : List Path) → bytes_eq k l ≡ b → (IsSome (map_of e w) → Contains here (key l ∷ w)) → (IsSome (option_map label_of (option_and_then (content_at w) rest)) → Contains there (key k ∷ w))
    → IsSome (option_map label_of (option_and_then (content_at w) (cond b (Some e) rest))) → Contains (here ++ there) (key k ∷ w)
in_member true k l e rest w here there is first later h =
    let same : k ≡ l = (bytes_eq-Decides k l).0 is in
    Contains-append_left here there (key k ∷ w) (subst (λ (t : Text). Contains here (key t ∷ w)) (sym same) (first h))
in_member false k l e rest w here there is first later h = Contains-append_right here there (key k ∷ w) (later h)

mutual
  unfolding paths item_paths member_paths

  listed : (d : Content) (w : Path) → IsSome (map_of d w) → Contains (paths d) w
  listed (scalar v) [] h = (0, omega arith, refl)
  listed (scalar v) (key k ∷ w) h = no_child w h
  listed (scalar v) (place i ∷ w) h = no_child w h
  listed (array ds) [] h = (0, omega arith, refl)
  listed (array ds) (key k ∷ w) h = no_child w h
  listed (array ds) (place i ∷ w) h = Contains-cons [] (item_paths 0 ds) (place i ∷ w) (items_listed ds 0 i i w (omega arith) h)
  listed (object ms) [] h = (0, omega arith, refl)
  listed (object ms) (key k ∷ w) h = Contains-cons [] (member_paths ms) (key k ∷ w) (members_listed ms k w h)
  listed (object ms) (place i ∷ w) h = no_child w h

  items_listed : (ds : Items) (i j k : ℕ) (w : Path) → k ≡ i + j → IsSome (option_map label_of (option_and_then (content_at w) (get_item j ds))) → Contains (item_paths i ds) (place k ∷ w)
  items_listed no_items i j k w e h = no_child w h
  items_listed (item d ds) i zero k w e h =
      let same : k ≡ i = omega arith in
      Contains-append_left (map (λ (w : Path). place i ∷ w) (paths d)) (item_paths (suc i) ds) (place k ∷ w) (subst (λ (m : ℕ). Contains (map (λ (w : Path). place i ∷ w) (paths d)) (place m ∷ w)) (sym same) (Contains-map (λ (w : Path). place i ∷ w) (paths d) w (listed d w h)))
  items_listed (item d ds) i (suc j) k w e h = Contains-append_right (map (λ (w : Path). place i ∷ w) (paths d)) (item_paths (suc i) ds) (place k ∷ w) (items_listed ds (suc i) j k w (omega arith) h)

  members_listed : (ms : Members) (k : Text) (w : Path) → IsSome (option_map label_of (option_and_then (content_at w) (get_member k ms))) → Contains (member_paths ms) (key k ∷ w)
  members_listed no_members k w h = no_child w h
  members_listed (member l d ms) k w h = in_member (bytes_eq k l) k l d (get_member k ms) w (map (λ (w : Path). key l ∷ w) (paths d)) (member_paths ms) refl (λ i. Contains-map (λ (w : Path). key l ∷ w) (paths d) w (listed d w i)) (λ i. members_listed ms k w i) h

-- some list has each path at which there is a node
pub map_of-finite : (d : Content) → IsListed (map_of d)
map_of-finite d = (paths d, listed d)
