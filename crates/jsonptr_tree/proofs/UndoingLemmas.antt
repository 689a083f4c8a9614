-- Undoing an assignment: which tokens name where the value landed, and what is left once they are used.
use Rattle.std.proofs.Common.{◌≡◌, ℕ, suc, ◌-◌, ◌<◌, ◌≤◌, max, false, codes, List, [], ◌∷◌, ◌++◌, Option, Some, None, IsSome, ◌⊎◌, inl, inr, ⊎_elim, refl, sym, ap, ◌∙◌, subst, arith, append_assoc}
use mathlib.Core.Path.{fun_ext}
use Rattle.std.proofs.lemmas.Bool.{cases_lt}
use Rattle.jsonptr_grammar.specs.Text.{Text, dec}
use Rattle.jsonptr_tree.specs.Node.{Step, key, place, Path, Scalar, Label, an_object, an_array, a_leaf, NodeMap, sub, NamesStep, Names, MayHave, IsTree}
use Rattle.jsonptr_tree.specs.Following.{StopsBefore}
use Rattle.jsonptr_tree.specs.Put.{same_step, put}
use Rattle.jsonptr_tree.specs.Expansion.{expanded}
use Rattle.jsonptr_tree.specs.Landing.{LandsFrom, Lands}
use Rattle.jsonptr_tree.specs.Assigning.{long_enough, with_room, found_at, Assigns}
use Rattle.jsonptr_tree.specs.Removing.{one_less, place_before, without_key, without_place, without_step, Deletes}
use Rattle.jsonptr_tree.specs.PrivateUndoing.{NamesLanding}
use Rattle.jsonptr_tree.proofs.NodeLemmas.{sub-root, Names-here, Names-append, Names_one_list, IsTree-above, IsTree-sub, IsTree-named}
use Rattle.jsonptr_tree.proofs.FollowingLemmas.{StopsAt_one, cases_some}
use Rattle.jsonptr_tree.proofs.PutLemmas.{cases_same, put_at, sub-put, put-sub, put-put, same_by_step, Names-put}
use Rattle.jsonptr_tree.proofs.ExpansionLemmas.{IsTree-expanded}
use Rattle.jsonptr_tree.proofs.LandingLemmas.{means_end-cases, Lands_one, Lands_named}
use Rattle.jsonptr_tree.proofs.AssigningLemmas.{made, made-step, made-other_step, made_below, made_named, found_at-some, found_at-none, some-room, Assigns-tree}
use Rattle.jsonptr_tree.proofs.RemovingLemmas.{without_key-same, without_key-other, place_before-below, place_before-from}

-- what was at the path before

some_found : (n : NodeMap) (p : Path) (old : NodeMap) → Some old ≡ found_at n p → IsSome (n p) × (old ≡ sub n p)
some_found n p old e = ⊎_elim
    (λ (h : IsSome (n p)).
    let same : Some old ≡ Some (sub n p) = e ∙ found_at-some n p h in
    (h, one same))
    (λ (f : n p ≡ None). absurd (apart (e ∙ found_at-none n p f)))
    (cases_some (n p))
  where
    one : Some old ≡ Some (sub n p) → old ≡ sub n p
    one same = cc

    apart : Some old ≡ None → ⊥
    apart f = cc

none_found : (n : NodeMap) (p : Path) → None ≡ found_at n p → IsSome (n p) → ⊥
none_found n p e h = apart (e ∙ found_at-some n p h)
  where
    apart : None ≡ Some (sub n p) → ⊥
    apart f = cc

-- below a path of a tree with no node there is no node
none_below : (n : NodeMap) (p q : Path) → IsTree n → (IsSome (n p) → ⊥) → n (p ++ q) ≡ None
none_below n p q tree none = ⊎_elim
    (λ (h : IsSome (n (p ++ q))). absurd (none (IsTree-above n tree p q h)))
    (λ (e : n (p ++ q) ≡ None). e)
    (cases_some (n (p ++ q)))

-- what was there before is restored

-- put where it was
pub put_back : (n : NodeMap) (tokens : List Text) (v m old : NodeMap) → IsTree n → (r : Assigns n tokens v m (Some old)) → put m r.path old ≡ n
put_back n tokens v m old tree r =
    let was = some_found n r.path old r.replaced in
    let named = IsTree-named n tree r.path was.0 in
    ap (λ (k : NodeMap). put k r.path old) r.made
    ∙ put-put (with_room n r.path) r.path (expanded r.left v) old
    ∙ made_named n named.0 r.path old named.1
    ∙ ap (put n r.path) was.1
    ∙ put-sub n r.path

-- a new member that goes
without_new_member : (n : NodeMap) (k : Text) (g : NodeMap) → ((q : Path) → n (key k ∷ q) ≡ None) → without_key k (made n (key k ∷ []) g) ≡ n
without_new_member n k g none = same_by_step (without_key k (made n (key k ∷ []) g)) n refl below
  where
    below : (t : Step) → sub (without_key k (made n (key k ∷ []) g)) (t ∷ []) ≡ sub n (t ∷ [])
    below t = go (cases_same (key k) t)
      where
        go : (key k ≡ t) ⊎ (same_step (key k) t ≡ false) → sub (without_key k (made n (key k ∷ []) g)) (t ∷ []) ≡ sub n (t ∷ [])
        go (inl e) = subst (λ (a : Step). sub (without_key k (made n (key k ∷ []) g)) (a ∷ []) ≡ sub n (a ∷ [])) e (fun_ext (λ (q : Path). without_key-same k (made n (key k ∷ []) g) q ∙ sym (none q)))
        go (inr e) = fun_ext (λ (q : Path). without_key-other k (made n (key k ∷ []) g) t q e) ∙ made-other_step n (key k) t [] g e

other_place : (i j : ℕ) → (i ≡ j → ⊥) → same_step (place i) (place j) ≡ false
other_place i j apart = ⊎_elim
    (λ (e : place i ≡ place j). absurd (apart (one e)))
    (λ (f : same_step (place i) (place j) ≡ false). f)
    (cases_same (place i) (place j))
  where
    one : place i ≡ place j → i ≡ j
    one e = cc

-- a new last element that goes
without_new_element : (n : NodeMap) (len : ℕ) (g : NodeMap) → IsTree n → n [] ≡ Some (an_array len) → without_place len (made n (place len ∷ []) g) ≡ n
without_new_element n len g tree e = fun_ext go
  where
    past : (i : ℕ) → len ≤ i → (q : Path) → n (place i ∷ q) ≡ None
    past i h q = none_below n (place i ∷ []) q tree (λ s. outside (subst (λ (o : Option Label). MayHave o (place i)) e (tree.parent [] (place i) s)))
      where
        outside : i < len → ⊥
        outside b = omega arith

    kept : (i : ℕ) → (len ≡ i → ⊥) → (q : Path) → made n (place len ∷ []) g (place i ∷ q) ≡ n (place i ∷ q)
    kept i apart q = ap (λ (k : NodeMap). k q) (made-other_step n (place len) (place i) [] g (other_place len i apart))

    below : (j : ℕ) → j < len → (q : Path) → made n (place len ∷ []) g (place (place_before len j) ∷ q) ≡ n (place j ∷ q)
    below j b q = ap (λ (i : ℕ). made n (place len ∷ []) g (place i ∷ q)) (place_before-below len j b) ∙ kept j (λ same. omega arith) q

    from : (j : ℕ) → len ≤ j → (q : Path) → made n (place len ∷ []) g (place (place_before len j) ∷ q) ≡ n (place j ∷ q)
    from j b q = ap (λ (i : ℕ). made n (place len ∷ []) g (place i ∷ q)) (place_before-from len j b) ∙ kept (suc j) (λ same. omega arith) q ∙ past (suc j) (omega arith) q ∙ sym (past j b q)

    less : max len (suc len) - 1 ≡ len
    less = omega arith

    go : (q : Path) → without_place len (made n (place len ∷ []) g) q ≡ n q
    go [] = ap (λ (o : Option Label). one_less (long_enough (Some (place len ∷ [])) o)) e ∙ ap (λ (k : ℕ). Some (an_array k)) less ∙ sym e
    go (key k ∷ q) = ap (λ (m : NodeMap). m q) (made-other_step n (place len) (key k) [] g refl)
    go (place j ∷ q) = ⊎_elim (λ (b : j < len). below j b q) (λ (b : len ≤ j). from j b q) (cases_lt j len)

-- below the node where it was
without_new : (n : NodeMap) (front : List Text) (w : Path) (s : Step) (g : NodeMap) → Names n front w → without_step s (made (sub n w) (s ∷ []) g) ≡ sub n w → put (made n (w ++ s ∷ []) g) w (without_step s (sub (made n (w ++ s ∷ []) g) w)) ≡ n
without_new n front w s g h same =
    let inner = made (sub n w) (s ∷ []) g in
    ap (λ (m : NodeMap). put m w (without_step s (sub m w))) (made_below n front w (s ∷ []) g h)
    ∙ ap (λ (q : NodeMap). put (put n w inner) w (without_step s q)) (sub-put n w inner)
    ∙ put-put n w inner (without_step s inner)
    ∙ ap (put n w) same
    ∙ put-sub n w

-- what is left when the tokens that name the new path delete it
left_from : (n : NodeMap) (front : List Text) (w : Path) (rest : List Text) (p : Path) (left : List Text) (l : Option Label) (g : NodeMap) → IsTree n → Names n front w → n w ≡ l → LandsFrom w l rest p left → (IsSome (n p) → ⊥) → (landing : List Text) (blank k : NodeMap) → Names (made n p g) landing p → Deletes (made n p g) landing blank k → k ≡ n
left_from n front w [] p left l g tree h e r none landing blank k there d = absurd (none (subst (λ (u : Path). IsSome (n u)) (sym r.0) (Names-here n front w h)))
left_from n front w (x ∷ rest) p left None g tree h e r none landing blank k there d = absurd r
left_from n front w (x ∷ rest) p left (Some an_object) g tree h e r none landing blank k there d = at p r.0 none there d
  where
    at : (u : Path) → u ≡ w ++ key x ∷ [] → (IsSome (n u) → ⊥) → Names (made n u g) landing u → Deletes (made n u g) landing blank k → k ≡ n
    at u is none there d =
        let here : Names (made n (w ++ key x ∷ []) g) landing (w ++ key x ∷ []) = subst (λ (q : Path). Names (made n q g) landing q) is there in
        let gone : Deletes (made n (w ++ key x ∷ []) g) landing blank k = subst (λ (q : Path). Deletes (made n q g) landing blank k) is d in
        let absent : (q : Path) → n (w ++ key x ∷ q) ≡ None = λ q. ap n (sym (append_assoc w (key x ∷ []) q)) ∙ none_below n (w ++ key x ∷ []) q tree (λ s. none (subst (λ (a : Path). IsSome (n a)) (sym is) s)) in
        gone.child w (key x) here ∙ without_new n front w (key x) g h (without_new_member (sub n w) x g absent)
left_from n front w (x ∷ rest) p left (Some (an_array len)) g tree h e r none landing blank k there d = at p r.1 there d
  where
    at : (u : Path) → u ≡ w ++ place len ∷ [] → Names (made n u g) landing u → Deletes (made n u g) landing blank k → k ≡ n
    at u is there d =
        let here : Names (made n (w ++ place len ∷ []) g) landing (w ++ place len ∷ []) = subst (λ (q : Path). Names (made n q g) landing q) is there in
        let gone : Deletes (made n (w ++ place len ∷ []) g) landing blank k = subst (λ (q : Path). Deletes (made n q g) landing blank k) is d in
        gone.child w (place len) here ∙ without_new n front w (place len) g h (without_new_element (sub n w) len g (IsTree-sub n w tree (Names-here n front w h)) (sub-root n w ∙ e))
left_from n front w (x ∷ rest) p left (Some (a_leaf a)) g tree h e r none landing blank k there d = absurd (none (subst (λ (u : Path). IsSome (n u)) (sym r.0) (Names-here n front w h)))

-- deleted where it is new
pub deleted_again : (n : NodeMap) (tokens : List Text) (v m : NodeMap) → IsTree n → (r : Assigns n tokens v m None) → (landing : List Text) (blank k : NodeMap) → Names m landing r.path → Deletes m landing blank k → k ≡ n
deleted_again n tokens v m tree r landing blank k there d =
    left_from n r.lands.front r.lands.path r.lands.rest r.path r.left (n r.lands.path) (expanded r.left v) tree r.lands.stops.named refl r.lands.lands (none_found n r.path r.replaced) landing blank k
    (subst (λ (q : NodeMap). Names q landing r.path) r.made there)
    (subst (λ (q : NodeMap). Deletes q landing blank k) r.made d)

-- tokens that name the path

-- one list of them does
pub landing_named : (n : NodeMap) (tokens : List Text) (v m : NodeMap) (old : Option NodeMap) → IsTree n → IsTree v → (r : Assigns n tokens v m old) → (landing : List Text) × Names m landing r.path × ((others : List Text) → Names m others r.path → others ≡ landing)
landing_named n tokens v m old tree new r =
    let root : IsSome (m r.path) = subst (λ (q : NodeMap). IsSome (q r.path)) (sym r.made) (subst (λ (o : Option Label). IsSome o) (sym (put_at (with_room n r.path) r.path (expanded r.left v))) (IsTree-expanded r.left v new).root) in
    let named = IsTree-named m (Assigns-tree n tokens v m old tree new r) r.path root in
    (named.0, named.1, λ others h. Names_one_list m others named.0 r.path h named.1)

-- the path is known before the value is there

-- tokens that name where a value lands name it in what an assignment makes
pub landing_names : (n : NodeMap) (tokens landing : List Text) (v m : NodeMap) (old : Option NodeMap) → NamesLanding n tokens landing → IsTree v → (r : Assigns n tokens v m old) → Names m landing r.path
landing_names n tokens landing v m old names new r = subst (λ (q : NodeMap). Names q landing r.path) (sym r.made) (names r.path r.left r.lands (expanded r.left v) (IsTree-expanded r.left v new).root)

-- tokens that name a node name it
named_anew : (n : NodeMap) (xs : List Text) (w : Path) → Names n xs w → (u : NodeMap) → IsSome (u []) → Names (made n w u) xs w
named_anew n xs w h u i = subst (λ (m : NodeMap). Names m xs w) (sym (made_named n xs w u h)) (Names-put n xs w u h i)

-- and with one more that selects a step for which there is room, they name the child
named_below : (n : NodeMap) (xs : List Text) (x : Text) (w : Path) (s : Step) → Names n xs w → NamesStep (long_enough (Some (s ∷ [])) (n w)) x s → (u : NodeMap) → IsSome (u []) → Names (made n (w ++ s ∷ []) u) (xs ++ x ∷ []) (w ++ s ∷ [])
named_below n xs x w s h step u i =
    let inner = made (sub n w) (s ∷ []) u in
    let first : NamesStep (inner []) x s = subst (λ (o : Option Label). NamesStep (long_enough (Some (s ∷ [])) o) x s) (sym (sub-root n w)) step in
    let root : IsSome (sub n w []) = subst (λ (o : Option Label). IsSome o) (sym (sub-root n w)) (Names-here n xs w h) in
    let rest : Names (sub inner (s ∷ [])) [] [] = subst (λ (m : NodeMap). IsSome (m [])) (sym (made-step (sub n w) s [] u)) i in
    subst (λ (m : NodeMap). Names m (xs ++ x ∷ []) (w ++ s ∷ [])) (sym (made_below n xs w (s ∷ []) u h))
    (Names-append (put n w inner) xs (x ∷ []) w (s ∷ []) (Names-put n xs w inner h (some-room (sub n w []) (Some (s ∷ [])) root))
    (subst (λ (m : NodeMap). Names m (x ∷ []) (s ∷ [])) (sym (sub-put n w inner)) (first, rest)))

-- where following stops, the label there says where a value lands
lands_stopped : (n : NodeMap) (tokens : List Text) (position offset : ℕ) (label : Label) (x : Text) (r : StopsBefore n tokens position offset label x) (p : Path) (left : List Text) → Lands n tokens p left → LandsFrom r.path (Some label) (x ∷ r.rest) p left
lands_stopped n tokens position offset label x r p left l =
    let same = StopsAt_one n tokens l.front r.front l.path r.path l.rest (x ∷ r.rest) l.stops r.stops in
    subst (λ (o : Option Label). LandsFrom r.path o (x ∷ r.rest) p left) (ap n same.1 ∙ r.label_is)
    (subst (λ (w : Path). LandsFrom w (n l.path) (x ∷ r.rest) p left) same.1
    (subst (λ (ts : List Text). LandsFrom l.path (n l.path) ts p left) same.2 l.lands))

-- tokens that name a path
pub landing_named_path : (n : NodeMap) (tokens : List Text) (w : Path) → Names n tokens w → NamesLanding n tokens tokens
landing_named_path n tokens w h p left l u i =
    let same = Lands_one n tokens w p [] left (Lands_named n tokens w h) l in
    subst (λ (q : Path). Names (made n q u) tokens q) same.0 (named_anew n tokens w h u i)

-- a scalar is replaced
pub landing_leaf : (n : NodeMap) (tokens : List Text) (position offset : ℕ) (v : Scalar) (x : Text) (r : StopsBefore n tokens position offset (a_leaf v) x) → NamesLanding n tokens r.front
landing_leaf n tokens position offset v x r p left l u i =
    let at = lands_stopped n tokens position offset (a_leaf v) x r p left l in
    subst (λ (q : Path). Names (made n q u) r.front q) (sym at.0) (named_anew n r.front r.path r.stops.named u i)

-- an object has a new member
pub landing_member : (n : NodeMap) (tokens : List Text) (position offset : ℕ) (x : Text) (r : StopsBefore n tokens position offset an_object x) → NamesLanding n tokens (r.front ++ x ∷ [])
landing_member n tokens position offset x r p left l u i =
    let at = lands_stopped n tokens position offset an_object x r p left l in
    let step : NamesStep (long_enough (Some (key x ∷ [])) (n r.path)) x (key x) = subst (λ (o : Option Label). NamesStep (long_enough (Some (key x ∷ [])) o) x (key x)) (sym r.label_is) refl in
    subst (λ (q : Path). Names (made n q u) (r.front ++ x ∷ []) q) (sym at.0) (named_below n r.front x r.path (key x) r.stops.named step u i)

-- an array has a new last element
pub landing_end : (n : NodeMap) (tokens : List Text) (position offset len : ℕ) (x : Text) (r : StopsBefore n tokens position offset (an_array len) x) → NamesLanding n tokens (r.front ++ dec len ∷ [])
landing_end n tokens position offset len x r p left l u i =
    let at = lands_stopped n tokens position offset (an_array len) x r p left l in
    let more : len < max len (suc len) = omega arith in
    let step : NamesStep (long_enough (Some (place len ∷ [])) (n r.path)) (dec len) (place len) = subst (λ (o : Option Label). NamesStep (long_enough (Some (place len ∷ [])) o) (dec len) (place len)) (sym r.label_is) (more, refl) in
    subst (λ (q : Path). Names (made n q u) (r.front ++ dec len ∷ []) q) (sym at.1) (named_below n r.front (dec len) r.path (place len) r.stops.named step u i)

-- of which the token is the index
pub landing_means : (n : NodeMap) (tokens : List Text) (position offset len : ℕ) (x : Text) (r : StopsBefore n tokens position offset (an_array len) x) (p : Path) (left : List Text) → Lands n tokens p left → (x ≡ codes "-") ⊎ (x ≡ dec len)
landing_means n tokens position offset len x r p left l = means_end-cases len x (lands_stopped n tokens position offset (an_array len) x r p left l).0
