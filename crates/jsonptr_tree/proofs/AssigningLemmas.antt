-- What an assignment makes of a document: one map, a tree, with all else unchanged.
use Rattle.std.proofs.Common.{◌≡◌, ◌≢◌, codes, ℕ, suc, ◌<◌, ◌≤◌, max, true, false, List, [], ◌∷◌, ◌++◌, Option, Some, None, option_map, IsSome, ◌↔◌, ◌⊎◌, inl, inr, ⊎_elim, refl, sym, ap, ap₂, ◌∙◌, subst, arith, true≢false, append-nil, append_assoc}
use mathlib.Core.Path.{fun_ext}
use Rattle.jsonptr_grammar.specs.Text.{Text, dec}
use Rattle.jsonptr_tree.specs.Node.{Step, key, place, Path, Scalar, Label, an_object, an_array, a_leaf, NodeMap, sub, NamesStep, Names, MayHave, IsTree, IsListed}
use Rattle.jsonptr_tree.specs.Following.{Finds, StopsAt}
use Rattle.jsonptr_tree.specs.Put.{GoesThrough, same_step, rest_after, put}
use Rattle.jsonptr_tree.specs.Expansion.{is_append_index, expanded, LacksDash}
use Rattle.jsonptr_tree.specs.Landing.{LandsFrom, Lands, LandsNowhere}
use Rattle.jsonptr_tree.specs.Assigning.{long_enough, with_room, found_at, Assigns}
use Rattle.jsonptr_tree.proofs.NodeLemmas.{sub-root, sub-sub, Names-here, Names-root, Names-append, IsTree-sub}
use Rattle.jsonptr_tree.proofs.FollowingLemmas.{stops-lacks, cases_some}
use Rattle.jsonptr_tree.proofs.PutLemmas.{same_step-refl, cases_same, rest_after-step, rest_after-other, rest_after-append, rest_after-shorter, put_none, put_below, same_by_step, put-step, put-other_step, sub-put, Names-put}
use Rattle.jsonptr_tree.proofs.ListedLemmas.{IsListed-put, IsListed-within}
use Rattle.jsonptr_tree.proofs.TreeLemmas.{IsTree-level, IsTree-child, IsTree-put}
use Rattle.jsonptr_tree.proofs.ExpansionLemmas.{IsTree-expanded, IsListed-expanded, Finds-expanded}
use Rattle.jsonptr_tree.proofs.LandingLemmas.{means_end-cases, Lands_one, Lands_named, Lands_leaf, Lands_object, Lands_end, Lands-LandsNowhere, lands}

-- with room

other_flip : (s t : Step) → same_step s t ≡ false → same_step t s ≡ false
other_flip s t e = ⊎_elim
    (λ (same : t ≡ s). absurd (true≢false (sym (same_step-refl s) ∙ subst (λ (a : Step). same_step s a ≡ false) same e)))
    (λ (f : same_step t s ≡ false). f)
    (cases_same t s)

-- a node that has the next index is long enough
pub long_enough_named : (o : Option Label) (x : Text) (t : Step) (p : Path) → NamesStep o x t → long_enough (Some (t ∷ p)) o ≡ o
long_enough_named None x t p h = absurd h
long_enough_named (Some an_object) x (key k) p h = refl
long_enough_named (Some an_object) x (place i) p h = absurd h
long_enough_named (Some (an_array len)) x (key k) p h = absurd h
long_enough_named (Some (an_array len)) x (place i) p h =
    let below : i < len = h.0 in
    let same : max len (suc i) ≡ len = omega arith in
    ap (λ (k : ℕ). Some (an_array k)) same
long_enough_named (Some (a_leaf v)) x t p h = absurd h

-- a step that is named is named where there is more room
NamesStep-room : (o : Option Label) (r : Option Path) (x : Text) (s : Step) → NamesStep o x s → NamesStep (long_enough r o) x s
NamesStep-room o None x s h = h
NamesStep-room o (Some []) x s h = h
NamesStep-room o (Some (key k ∷ p)) x s h = h
NamesStep-room None (Some (place i ∷ p)) x s h = h
NamesStep-room (Some an_object) (Some (place i ∷ p)) x s h = h
NamesStep-room (Some (an_array len)) (Some (place i ∷ p)) x (key k) h = h
NamesStep-room (Some (an_array len)) (Some (place i ∷ p)) x (place j) h =
    let below : j < len = h.0 in
    let more : j < max len (suc i) = omega arith in
    (more, h.1)
NamesStep-room (Some (a_leaf v)) (Some (place i ∷ p)) x s h = h

MayHave-room : (o : Option Label) (r : Option Path) (s : Step) → MayHave o s → MayHave (long_enough r o) s
MayHave-room o None s h = h
MayHave-room o (Some []) s h = h
MayHave-room o (Some (key k ∷ p)) s h = h
MayHave-room None (Some (place i ∷ p)) s h = h
MayHave-room (Some an_object) (Some (place i ∷ p)) s h = h
MayHave-room (Some (an_array len)) (Some (place i ∷ p)) (key k) h = h
MayHave-room (Some (an_array len)) (Some (place i ∷ p)) (place j) h =
    let below : j < len = h in
    omega arith
MayHave-room (Some (a_leaf v)) (Some (place i ∷ p)) s h = h

-- room makes no node, and takes none
pub room-some : (o : Option Label) (r : Option Path) → IsSome (long_enough r o) → IsSome o
room-some o None h = h
room-some o (Some []) h = h
room-some o (Some (key k ∷ p)) h = h
room-some None (Some (place i ∷ p)) h = h
room-some (Some an_object) (Some (place i ∷ p)) h = h
room-some (Some (an_array len)) (Some (place i ∷ p)) h = refl
room-some (Some (a_leaf v)) (Some (place i ∷ p)) h = h

pub some-room : (o : Option Label) (r : Option Path) → IsSome o → IsSome (long_enough r o)
some-room o None h = h
some-room o (Some []) h = h
some-room o (Some (key k ∷ p)) h = h
some-room None (Some (place i ∷ p)) h = h
some-room (Some an_object) (Some (place i ∷ p)) h = h
some-room (Some (an_array len)) (Some (place i ∷ p)) h = refl
some-room (Some (a_leaf v)) (Some (place i ∷ p)) h = h

with_room-step : (n : NodeMap) (s : Step) (p : Path) → sub (with_room n (s ∷ p)) (s ∷ []) ≡ with_room (sub n (s ∷ [])) p
with_room-step n s p = fun_ext (λ (q : Path). ap (λ (r : Option Path). long_enough r (n (s ∷ q))) (rest_after-step s q p))

with_room-other_step : (n : NodeMap) (s t : Step) (p : Path) → same_step s t ≡ false → sub (with_room n (s ∷ p)) (t ∷ []) ≡ sub n (t ∷ [])
with_room-other_step n s t p e = fun_ext (λ (q : Path). ap (λ (r : Option Path). long_enough r (n (t ∷ q))) (rest_after-other t s q p (other_flip s t e)))

-- v at p, with room for it
abbrev pub made : NodeMap → Path → NodeMap → NodeMap
made n p v = put (with_room n p) p v

pub made-step : (n : NodeMap) (s : Step) (p : Path) (v : NodeMap) → sub (made n (s ∷ p) v) (s ∷ []) ≡ made (sub n (s ∷ [])) p v
made-step n s p v = put-step (with_room n (s ∷ p)) s p v ∙ ap (λ (k : NodeMap). put k p v) (with_room-step n s p)

pub made-other_step : (n : NodeMap) (s t : Step) (p : Path) (v : NodeMap) → same_step s t ≡ false → sub (made n (s ∷ p) v) (t ∷ []) ≡ sub n (t ∷ [])
made-other_step n s t p v e = put-other_step (with_room n (s ∷ p)) s t p v e ∙ with_room-other_step n s t p e

-- to make room and put below a path that is named is to do so in the map below it, and to put that there
pub made_below : (n : NodeMap) (xs : List Text) (w p : Path) (v : NodeMap) → Names n xs w → made n (w ++ p) v ≡ put n w (made (sub n w) p v)
made_below n [] [] p v h = refl
made_below n [] (s ∷ w) p v h = absurd h
made_below n (x ∷ xs) [] p v h = absurd h
made_below n (x ∷ xs) (s ∷ w) p v h = same_by_step (made n (s ∷ w ++ p) v) (put n (s ∷ w) (made (sub n (s ∷ w)) p v)) (long_enough_named (n []) x s (w ++ p) h.0) (below (made_below (sub n (s ∷ [])) xs w p v h.1))
  where
    below : made (sub n (s ∷ [])) (w ++ p) v ≡ put (sub n (s ∷ [])) w (made (sub n (s ∷ w)) p v) → (t : Step) → sub (made n (s ∷ w ++ p) v) (t ∷ []) ≡ sub (put n (s ∷ w) (made (sub n (s ∷ w)) p v)) (t ∷ [])
    below rest t = go (cases_same s t)
      where
        go : (s ≡ t) ⊎ (same_step s t ≡ false) → sub (made n (s ∷ w ++ p) v) (t ∷ []) ≡ sub (put n (s ∷ w) (made (sub n (s ∷ w)) p v)) (t ∷ [])
        go (inl e) = subst (λ (a : Step). sub (made n (s ∷ w ++ p) v) (a ∷ []) ≡ sub (put n (s ∷ w) (made (sub n (s ∷ w)) p v)) (a ∷ [])) e (made-step n s (w ++ p) v ∙ rest ∙ sym (put-step n s w (made (sub n (s ∷ w)) p v)))
        go (inr e) = made-other_step n s t (w ++ p) v e ∙ sym (put-other_step n s t w (made (sub n (s ∷ w)) p v) e)

-- where the tokens name w there is room for it
pub made_named : (n : NodeMap) (xs : List Text) (w : Path) (v : NodeMap) → Names n xs w → made n w v ≡ put n w v
made_named n xs w v h = ap (λ (u : Path). made n u v) (sym (append-nil w)) ∙ made_below n xs w [] v h

-- a frame

-- tokens that name a path that does not go through p, nor p through it, name it still, and find there what they did
pub made_frame : (n : NodeMap) (p : Path) (v : NodeMap) (xs : List Text) (q : Path) → Names n xs q → (GoesThrough p q → ⊥) → (GoesThrough q p → ⊥) → Names (made n p v) xs q × (sub (made n p v) q ≡ sub n q)
made_frame n [] v xs q h a b = absurd (b (q, refl))
made_frame n (s ∷ p) v xs [] h a b = absurd (a (s ∷ p, refl))
made_frame n (s ∷ p) v [] (t ∷ q) h a b = absurd h
made_frame n (s ∷ p) v (x ∷ xs) (t ∷ q) h a b = go (cases_same s t) (λ (na : GoesThrough p q → ⊥) (nb : GoesThrough q p → ⊥). made_frame (sub n (t ∷ [])) p v xs q h.1 na nb)
  where
    first : NamesStep (made n (s ∷ p) v []) x t
    first = NamesStep-room (n []) (Some (s ∷ p)) x t h.0

    through : (s ≡ t) → (c d : Path) → GoesThrough c d → GoesThrough (s ∷ c) (t ∷ d)
    through e c d r = (r.0, ap₂ (λ (a : Step) (u : Path). a ∷ u) e r.1)

    go : (s ≡ t) ⊎ (same_step s t ≡ false) → ((GoesThrough p q → ⊥) → (GoesThrough q p → ⊥) → Names (made (sub n (t ∷ [])) p v) xs q × (sub (made (sub n (t ∷ [])) p v) q ≡ sub (sub n (t ∷ [])) q)) → Names (made n (s ∷ p) v) (x ∷ xs) (t ∷ q) × (sub (made n (s ∷ p) v) (t ∷ q) ≡ sub n (t ∷ q))
    go (inl e) below =
        let r = below (λ c. a (through e p q c)) (λ c. b (c.0, ap₂ (λ (a : Step) (u : Path). a ∷ u) (sym e) c.1)) in
        let same : sub (made n (s ∷ p) v) (t ∷ []) ≡ made (sub n (t ∷ [])) p v = subst (λ (a : Step). sub (made n (s ∷ p) v) (a ∷ []) ≡ made (sub n (a ∷ [])) p v) e (made-step n s p v) in
        ((first, subst (λ (k : NodeMap). Names k xs q) (sym same) r.0), ap (λ (k : NodeMap). sub k q) same ∙ r.1)
    go (inr e) below =
        let same : sub (made n (s ∷ p) v) (t ∷ []) ≡ sub n (t ∷ []) = made-other_step n s t p v e in
        ((first, subst (λ (k : NodeMap). Names k xs q) (sym same) h.1), ap (λ (k : NodeMap). sub k q) same)

-- trees

-- a node with this label may have a child at this step, or has room for one
CanHave : Option Label → Step → Type 0
CanHave None s = ⊥
CanHave (Some an_object) (key k) = Unit {0}
CanHave (Some an_object) (place i) = ⊥
CanHave (Some (an_array len)) (key k) = ⊥
CanHave (Some (an_array len)) (place i) = i ≤ len
CanHave (Some (a_leaf v)) s = ⊥

CanHave-MayHave : (o : Option Label) (s : Step) → CanHave o s → MayHave (long_enough (Some (s ∷ [])) o) s
unfolding CanHave
CanHave-MayHave None s h = absurd h
CanHave-MayHave (Some an_object) (key k) h = tt
CanHave-MayHave (Some an_object) (place i) h = absurd h
CanHave-MayHave (Some (an_array len)) (key k) h = absurd h
CanHave-MayHave (Some (an_array len)) (place i) h =
    let near : i ≤ len = h in
    omega arith
CanHave-MayHave (Some (a_leaf v)) s h = absurd h

-- each index of the longer array except the new one was there
place-before : (o : Option Label) (s : Step) (len i : ℕ) → CanHave o s → long_enough (Some (s ∷ [])) o ≡ Some (an_array len) → i < len → same_step s (place i) ≡ false → (k : ℕ) × (o ≡ Some (an_array k)) × (i < k)
unfolding CanHave
place-before None s len i h e b f = absurd h
place-before (Some an_object) (key k) len i h e b f = cc
place-before (Some an_object) (place j) len i h e b f = absurd h
place-before (Some (an_array k)) (key l) len i h e b f = absurd h
place-before (Some (an_array k)) (place j) len i h e b f =
    let near : j ≤ k = h in
    let long : max k (suc j) ≡ len = cc in
    let apart : i ≡ j → ⊥ = λ same. true≢false (sym (same_step-refl (place j)) ∙ subst (λ (a : ℕ). same_step (place j) (place a) ≡ false) same f) in
    (k, refl, inside near long apart)
  where
    inside : j ≤ k → max k (suc j) ≡ len → (i ≡ j → ⊥) → i < k
    inside near long apart = omega arith
place-before (Some (a_leaf v)) s len i h e b f = absurd h

-- a tree below the root of a tree
IsTree-made : (n : NodeMap) (s : Step) (v : NodeMap) → IsTree n → CanHave (n []) s → IsTree v → IsTree (made n (s ∷ []) v)
IsTree-made n s v tree can new =
    let below : IsTree (sub (made n (s ∷ []) v) (s ∷ [])) = subst IsTree (sym (made-step n s [] v)) new in
    IsTree-level (made n (s ∷ []) v) (some-room (n []) (Some (s ∷ [])) tree.root) (child below) (full below)
  where
    child : IsTree (sub (made n (s ∷ []) v) (s ∷ [])) → (t : Step) (u : Path) → IsSome (made n (s ∷ []) v (t ∷ u)) → MayHave (made n (s ∷ []) v []) t × IsTree (sub (made n (s ∷ []) v) (t ∷ []))
    child below t u i = go (cases_same s t)
      where
        go : (s ≡ t) ⊎ (same_step s t ≡ false) → MayHave (made n (s ∷ []) v []) t × IsTree (sub (made n (s ∷ []) v) (t ∷ []))
        go (inl e) = subst (λ (a : Step). MayHave (made n (s ∷ []) v []) a × IsTree (sub (made n (s ∷ []) v) (a ∷ []))) e (CanHave-MayHave (n []) s can, below)
        go (inr e) =
            let same = made-other_step n s t [] v e in
            let old = IsTree-child n tree t u (subst (λ (k : NodeMap). IsSome (k u)) same i) in
            (MayHave-room (n []) (Some (s ∷ [])) t old.0, subst IsTree (sym same) old.1)

    full : IsTree (sub (made n (s ∷ []) v) (s ∷ [])) → (len i : ℕ) → made n (s ∷ []) v [] ≡ Some (an_array len) → i < len → IsSome (made n (s ∷ []) v (place i ∷ []))
    full below len i e b = go (cases_same s (place i))
      where
        go : (s ≡ place i) ⊎ (same_step s (place i) ≡ false) → IsSome (made n (s ∷ []) v (place i ∷ []))
        go (inl same) = subst (λ (a : Step). IsSome (made n (s ∷ []) v (a ∷ []))) same below.root
        go (inr f) =
            let r = place-before (n []) s len i can e b f in
            subst (λ (k : NodeMap). IsSome (k [])) (sym (made-other_step n s (place i) [] v f)) (tree.full [] r.0 i r.1 r.2)

-- finite maps

pub IsListed-with_room : (n : NodeMap) (p : Path) → IsListed n → IsListed (with_room n p)
IsListed-with_room n p h = IsListed-within n (with_room n p) (λ w i. room-some (n w) (rest_after w p) i) h

-- assigning

-- it makes one map, and one thing was there
pub Assigns_one : (n : NodeMap) (tokens : List Text) (v m k : NodeMap) (old was : Option NodeMap) → Assigns n tokens v m old → Assigns n tokens v k was → (m ≡ k) × (old ≡ was)
Assigns_one n tokens v m k old was a b =
    let same = Lands_one n tokens a.path b.path a.left b.left a.lands b.lands in
    (a.made ∙ ap₂ (λ (p : Path) (left : List Text). made n p (expanded left v)) same.0 same.1 ∙ sym b.made, a.replaced ∙ ap (found_at n) same.0 ∙ sym b.replaced)

-- and each value that lands somewhere is assigned
pub Assigns-some : (n : NodeMap) (tokens : List Text) (v : NodeMap) → IsTree n → ((m : NodeMap) × (old : Option NodeMap) × Assigns n tokens v m old) ⊎ ((position offset len : ℕ) × (x : Text) × LandsNowhere n tokens position offset len x)
Assigns-some n tokens v tree = ⊎_elim
    (λ (r : (p : Path) × (left : List Text) × Lands n tokens p left). inl (made n r.0 (expanded r.1 v), found_at n r.0, record { path = r.0; left = r.1; lands = r.2; made = refl; replaced = refl }))
    (λ (r : (position offset len : ℕ) × (x : Text) × LandsNowhere n tokens position offset len x). inr r)
    (lands n tokens tree)

-- nothing is assigned that lands nowhere
pub Assigns-LandsNowhere : (n : NodeMap) (tokens : List Text) (v m : NodeMap) (old : Option NodeMap) (position offset len : ℕ) (x : Text) → Assigns n tokens v m old → LandsNowhere n tokens position offset len x → ⊥
Assigns-LandsNowhere n tokens v m old position offset len x a r = Lands-LandsNowhere n tokens position offset len x a.path a.left a.lands r

-- the expanded value is where it lands
pub Assigns-there : (n : NodeMap) (tokens : List Text) (v m : NodeMap) (old : Option NodeMap) (r : Assigns n tokens v m old) → sub m r.path ≡ expanded r.left v
Assigns-there n tokens v m old r = ap (λ (k : NodeMap). sub k r.path) r.made ∙ sub-put (with_room n r.path) r.path (expanded r.left v)

-- all that is apart from there is unchanged
pub Assigns-frame : (n : NodeMap) (tokens : List Text) (v m : NodeMap) (old : Option NodeMap) (r : Assigns n tokens v m old) (xs : List Text) (q : Path) → Names n xs q → (GoesThrough r.path q → ⊥) → (GoesThrough q r.path → ⊥) → Names m xs q × (sub m q ≡ sub n q)
Assigns-frame n tokens v m old r xs q h a b = subst (λ (k : NodeMap). Names k xs q × (sub k q ≡ sub n q)) (sym r.made) (made_frame n r.path (expanded r.left v) xs q h a b)

-- of finite maps it makes a finite map
pub Assigns-finite : (n : NodeMap) (tokens : List Text) (v m : NodeMap) (old : Option NodeMap) → IsListed n → IsListed v → Assigns n tokens v m old → IsListed m
Assigns-finite n tokens v m old a b r = subst IsListed (sym r.made) (IsListed-put (with_room n r.path) r.path (expanded r.left v) (IsListed-with_room n r.path a) (IsListed-expanded r.left v b))

-- of trees it makes a tree
IsTree-under : (n : NodeMap) (front : List Text) (w : Path) (s : Step) (v : NodeMap) → IsTree n → Names n front w → CanHave (n w) s → IsTree v → IsTree (made n (w ++ s ∷ []) v)
IsTree-under n front w s v tree h can new =
    let here = Names-here n front w h in
    let inner = IsTree-made (sub n w) s v (IsTree-sub n w tree here) (subst (λ (o : Option Label). CanHave o s) (sym (sub-root n w)) can) new in
    subst IsTree (sym (made_below n front w (s ∷ []) v h)) (IsTree-put n w (made (sub n w) (s ∷ []) v) tree here inner)

IsTree-from : (n : NodeMap) (front : List Text) (w : Path) (rest : List Text) (p : Path) (left : List Text) (v : NodeMap) (l : Option Label) → IsTree n → IsTree v → Names n front w → n w ≡ l → LandsFrom w l rest p left → IsTree (made n p (expanded left v))
unfolding CanHave
IsTree-from n front w [] p left v l tree new h e r = subst (λ (u : Path). IsTree (made n u (expanded left v))) (sym r.0) (subst IsTree (sym (made_named n front w (expanded left v) h)) (IsTree-put n w (expanded left v) tree (Names-here n front w h) (IsTree-expanded left v new)))
IsTree-from n front w (x ∷ rest) p left v None tree new h e r = absurd r
IsTree-from n front w (x ∷ rest) p left v (Some an_object) tree new h e r = subst (λ (u : Path). IsTree (made n u (expanded left v))) (sym r.0) (IsTree-under n front w (key x) (expanded left v) tree h (subst (λ (o : Option Label). CanHave o (key x)) (sym e) tt) (IsTree-expanded left v new))
IsTree-from n front w (x ∷ rest) p left v (Some (an_array len)) tree new h e r =
    let near : len ≤ len = omega arith in
    subst (λ (u : Path). IsTree (made n u (expanded left v))) (sym r.1) (IsTree-under n front w (place len) (expanded left v) tree h (subst (λ (o : Option Label). CanHave o (place len)) (sym e) near) (IsTree-expanded left v new))
IsTree-from n front w (x ∷ rest) p left v (Some (a_leaf a)) tree new h e r = subst (λ (u : Path). IsTree (made n u (expanded left v))) (sym r.0) (subst IsTree (sym (made_named n front w (expanded left v) h)) (IsTree-put n w (expanded left v) tree (Names-here n front w h) (IsTree-expanded left v new)))

pub Assigns-tree : (n : NodeMap) (tokens : List Text) (v m : NodeMap) (old : Option NodeMap) → IsTree n → IsTree v → Assigns n tokens v m old → IsTree m
Assigns-tree n tokens v m old tree new r = subst IsTree (sym r.made) (IsTree-from n r.lands.front r.lands.path r.lands.rest r.path r.left v (n r.lands.path) tree new r.lands.stops.named refl r.lands.lands)

-- by where it lands

-- the map at a node
pub found_at-some : (n : NodeMap) (w : Path) → IsSome (n w) → found_at n w ≡ Some (sub n w)
found_at-some n w h = at (n w) h
  where
    at : (o : Option Label) → IsSome o → option_map (λ (l : Label). sub n w) o ≡ Some (sub n w)
    at None h = absurd (true≢false (sym h))
    at (Some l) h = refl

-- and where no node is
pub found_at-none : (n : NodeMap) (w : Path) → n w ≡ None → found_at n w ≡ None
found_at-none n w e = ap (λ (o : Option Label). option_map (λ (l : Label). sub n w) o) e

some_label : (o : Option Label) (l : Label) → o ≡ Some l → IsSome o
some_label None l e = cc
some_label (Some k) l e = refl

-- a key needs no room
pub made_key : (n : NodeMap) (front : List Text) (w : Path) (k : Text) (v : NodeMap) → Names n front w → made n (w ++ key k ∷ []) v ≡ put n (w ++ key k ∷ []) v
made_key n front w k v h = made_below n front w (key k ∷ []) v h ∙ ap (put n w) (same_by_step (made (sub n w) (key k ∷ []) v) (put (sub n w) (key k ∷ []) v) refl below) ∙ sym (put_below n w (key k ∷ []) v)
  where
    below : (t : Step) → sub (made (sub n w) (key k ∷ []) v) (t ∷ []) ≡ sub (put (sub n w) (key k ∷ []) v) (t ∷ [])
    below t = go (cases_same (key k) t)
      where
        go : (key k ≡ t) ⊎ (same_step (key k) t ≡ false) → sub (made (sub n w) (key k ∷ []) v) (t ∷ []) ≡ sub (put (sub n w) (key k ∷ []) v) (t ∷ [])
        go (inl e) = subst (λ (a : Step). sub (made (sub n w) (key k ∷ []) v) (a ∷ []) ≡ sub (put (sub n w) (key k ∷ []) v) (a ∷ [])) e (made-step (sub n w) (key k) [] v ∙ sym (put-step (sub n w) (key k) [] v))
        go (inr e) = made-other_step (sub n w) (key k) t [] v e ∙ sym (put-other_step (sub n w) (key k) t [] v e)

-- at the node that the tokens name
pub Assigns_named : (n : NodeMap) (tokens : List Text) (v : NodeMap) (w : Path) → Names n tokens w → Assigns n tokens v (put n w v) (Some (sub n w))
Assigns_named n tokens v w h = record {
  path = w;
  left = [];
  lands = Lands_named n tokens w h;
  made = sym (made_named n tokens w v h);
  replaced = sym (found_at-some n w (Names-here n tokens w h));
}

-- at a scalar
pub Assigns_leaf : (n : NodeMap) (tokens front : List Text) (x : Text) (rest : List Text) (v : NodeMap) (w : Path) (a : Scalar) → StopsAt n tokens front w (x ∷ rest) → n w ≡ Some (a_leaf a) → Assigns n tokens v (put n w (expanded (x ∷ rest) v)) (Some (sub n w))
Assigns_leaf n tokens front x rest v w a s e = record {
  path = w;
  left = x ∷ rest;
  lands = Lands_leaf n tokens front x rest w a s e;
  made = sym (made_named n front w (expanded (x ∷ rest) v) s.named);
  replaced = sym (found_at-some n w (some_label (n w) (a_leaf a) e));
}

-- at a new member of an object
pub Assigns_object : (n : NodeMap) (tokens front : List Text) (x : Text) (rest : List Text) (v : NodeMap) (w : Path) → StopsAt n tokens front w (x ∷ rest) → n w ≡ Some an_object → Assigns n tokens v (put n (w ++ key x ∷ []) (expanded rest v)) None
Assigns_object n tokens front x rest v w s e = record {
  path = w ++ key x ∷ [];
  left = rest;
  lands = Lands_object n tokens front x rest w s e;
  made = sym (made_key n front w x (expanded rest v) s.named);
  replaced = sym (found_at-none n (w ++ key x ∷ []) (⊎_elim
      (λ (i : IsSome (n (w ++ key x ∷ []))). absurd (stops-lacks n tokens front x rest w s (key x) (subst (λ (o : Option Label). NamesStep o x (key x)) (sym e) refl) i))
      (λ (f : n (w ++ key x ∷ []) ≡ None). f)
      (cases_some (n (w ++ key x ∷ [])))));
}

-- after the elements of an array
pub Assigns_end : (n : NodeMap) (tokens front : List Text) (x : Text) (rest : List Text) (v : NodeMap) (w : Path) (len : ℕ) → IsTree n → StopsAt n tokens front w (x ∷ rest) → n w ≡ Some (an_array len) → is_append_index len x ≡ true → Assigns n tokens v (made n (w ++ place len ∷ []) (expanded rest v)) None
Assigns_end n tokens front x rest v w len tree s e h = record {
  path = w ++ place len ∷ [];
  left = rest;
  lands = Lands_end n tokens front x rest w len s e h;
  made = refl;
  replaced = sym (found_at-none n (w ++ place len ∷ []) (⊎_elim
      (λ (i : IsSome (n (w ++ place len ∷ []))). absurd (past (subst (λ (o : Option Label). MayHave o (place len)) e (tree.parent w (place len) i))))
      (λ (f : n (w ++ place len ∷ []) ≡ None). f)
      (cases_some (n (w ++ place len ∷ [])))));
}
  where
    past : len < len → ⊥
    past h = omega arith

-- the same, seen in the map below the array
pub Assigns_end_below : (n : NodeMap) (tokens front : List Text) (x : Text) (rest : List Text) (v : NodeMap) (w : Path) (len : ℕ) → IsTree n → StopsAt n tokens front w (x ∷ rest) → n w ≡ Some (an_array len) → is_append_index len x ≡ true → Assigns n tokens v (put n w (made (sub n w) (place len ∷ []) (expanded rest v))) None
Assigns_end_below n tokens front x rest v w len tree s e h = subst (λ (m : NodeMap). Assigns n tokens v m None) (made_below n front w (place len ∷ []) (expanded rest v) s.named) (Assigns_end n tokens front x rest v w len tree s e h)

-- and in the map below the object
pub Assigns_object_below : (n : NodeMap) (tokens front : List Text) (x : Text) (rest : List Text) (v : NodeMap) (w : Path) → StopsAt n tokens front w (x ∷ rest) → n w ≡ Some an_object → Assigns n tokens v (put n w (put (sub n w) (key x ∷ []) (expanded rest v))) None
Assigns_object_below n tokens front x rest v w s e = subst (λ (m : NodeMap). Assigns n tokens v m None) (put_below n w (key x ∷ []) (expanded rest v)) (Assigns_object n tokens front x rest v w s e)

-- what is assigned is what is assigned so
Assigns-iff : (n : NodeMap) (tokens : List Text) (v k : NodeMap) (was : Option NodeMap) → Assigns n tokens v k was → (m : NodeMap) (old : Option NodeMap) → Assigns n tokens v m old ↔ ((m ≡ k) × (old ≡ was))
Assigns-iff n tokens v k was a m old = (
  λ b. Assigns_one n tokens v m k old was b a,
  λ e. subst (λ (p : NodeMap). Assigns n tokens v p old) (sym e.0) (subst (λ (o : Option NodeMap). Assigns n tokens v k o) (sym e.1) a),
)

pub Assigns-named : (n : NodeMap) (tokens : List Text) (v m : NodeMap) (old : Option NodeMap) (w : Path) → Names n tokens w → Assigns n tokens v m old ↔ ((m ≡ put n w v) × (old ≡ Some (sub n w)))
Assigns-named n tokens v m old w h = Assigns-iff n tokens v (put n w v) (Some (sub n w)) (Assigns_named n tokens v w h) m old

pub Assigns-leaf : (n : NodeMap) (tokens front : List Text) (x : Text) (rest : List Text) (v m : NodeMap) (old : Option NodeMap) (w : Path) (a : Scalar) → StopsAt n tokens front w (x ∷ rest) → n w ≡ Some (a_leaf a) → Assigns n tokens v m old ↔ ((m ≡ put n w (expanded (x ∷ rest) v)) × (old ≡ Some (sub n w)))
Assigns-leaf n tokens front x rest v m old w a s e = Assigns-iff n tokens v (put n w (expanded (x ∷ rest) v)) (Some (sub n w)) (Assigns_leaf n tokens front x rest v w a s e) m old

pub Assigns-object : (n : NodeMap) (tokens front : List Text) (x : Text) (rest : List Text) (v m : NodeMap) (old : Option NodeMap) (w : Path) → StopsAt n tokens front w (x ∷ rest) → n w ≡ Some an_object → Assigns n tokens v m old ↔ ((m ≡ put n (w ++ key x ∷ []) (expanded rest v)) × (old ≡ None))
Assigns-object n tokens front x rest v m old w s e = Assigns-iff n tokens v (put n (w ++ key x ∷ []) (expanded rest v)) None (Assigns_object n tokens front x rest v w s e) m old

pub Assigns-end : (n : NodeMap) (tokens front : List Text) (x : Text) (rest : List Text) (v m : NodeMap) (old : Option NodeMap) (w : Path) (len : ℕ) → IsTree n → StopsAt n tokens front w (x ∷ rest) → n w ≡ Some (an_array len) → is_append_index len x ≡ true → Assigns n tokens v m old ↔ ((m ≡ put (with_room n (w ++ place len ∷ [])) (w ++ place len ∷ []) (expanded rest v)) × (old ≡ None))
Assigns-end n tokens front x rest v m old w len tree s e h = Assigns-iff n tokens v (made n (w ++ place len ∷ []) (expanded rest v)) None (Assigns_end n tokens front x rest v w len tree s e h) m old

-- labels on the path

made_above : (n : NodeMap) (w : Path) (s : Step) (u : Path) (v : NodeMap) → made n (w ++ s ∷ u) v w ≡ long_enough (Some (s ∷ u)) (n w)
made_above n w s u v = put_none (with_room n (w ++ s ∷ u)) (w ++ s ∷ u) v w (rest_after-shorter w s u) ∙ ap (λ (r : Option Path). long_enough r (n w)) (rest_after-append w (s ∷ u))

long_enough_child : (o : Option Label) (s : Step) (u : Path) → MayHave o s → long_enough (Some (s ∷ u)) o ≡ o
long_enough_child None s u h = absurd h
long_enough_child (Some an_object) (key k) u h = refl
long_enough_child (Some an_object) (place i) u h = absurd h
long_enough_child (Some (an_array len)) (key k) u h = absurd h
long_enough_child (Some (an_array len)) (place i) u h =
    let below : i < len = h in
    let same : max len (suc i) ≡ len = omega arith in
    ap (λ (k : ℕ). Some (an_array k)) same
long_enough_child (Some (a_leaf v)) s u h = absurd h

-- a node on the path keeps its label, if it may have the next step
pub Assigns-above : (n : NodeMap) (tokens : List Text) (v m : NodeMap) (old : Option NodeMap) (r : Assigns n tokens v m old) (w : Path) (s : Step) (u : Path) → r.path ≡ w ++ s ∷ u → MayHave (n w) s → m w ≡ n w
Assigns-above n tokens v m old r w s u e h = ap (λ (k : NodeMap). k w) (r.made ∙ ap (λ (p : Path). made n p (expanded r.left v)) e) ∙ made_above n w s u (expanded r.left v) ∙ long_enough_child (n w) s u h

-- an array has one more element, if the value lands after its last
pub Assigns-longer : (n : NodeMap) (tokens : List Text) (v m : NodeMap) (old : Option NodeMap) (r : Assigns n tokens v m old) (w : Path) (len : ℕ) → r.path ≡ w ++ place len ∷ [] → n w ≡ Some (an_array len) → m w ≡ Some (an_array (suc len))
Assigns-longer n tokens v m old r w len e l =
    let more : max len (suc len) ≡ suc len = omega arith in
    ap (λ (k : NodeMap). k w) (r.made ∙ ap (λ (p : Path). made n p (expanded r.left v)) e) ∙ made_above n w (place len) [] (expanded r.left v) ∙ ap (long_enough (Some (place len ∷ []))) l ∙ ap (λ (k : ℕ). Some (an_array k)) more

-- finding what was assigned

-- tokens that name a path, and then tokens that find v in what is put there
Finds-below : (n : NodeMap) (front rest : List Text) (w : Path) (u v : NodeMap) → Names n front w → IsSome (u []) → Finds u rest v → Finds (put n w u) (front ++ rest) v
Finds-below n front rest w u v h i f = record {
  path = w ++ f.path;
  named = Names-append (put n w u) front rest w f.path (Names-put n front w u h i) (subst (λ (k : NodeMap). Names k rest f.path) (sym (sub-put n w u)) f.named);
  below = f.below ∙ ap (λ (k : NodeMap). sub k f.path) (sym (sub-put n w u)) ∙ sub-sub (put n w u) w f.path;
}

-- a token that takes the step s to a new child, and then tokens that find v in it
Finds-child : (n : NodeMap) (x : Text) (xs : List Text) (s : Step) (u v : NodeMap) → NamesStep (long_enough (Some (s ∷ [])) (n [])) x s → Finds u xs v → Finds (made n (s ∷ []) u) (x ∷ xs) v
Finds-child n x xs s u v h f = record {
  path = s ∷ f.path;
  named = (h, subst (λ (k : NodeMap). Names k xs f.path) (sym (made-step n s [] u)) f.named);
  below = f.below ∙ ap (λ (k : NodeMap). sub k f.path) (sym (made-step n s [] u));
}

-- the token for the end of an array that is not `-` names the new element
names_end : (len : ℕ) (x : Text) → is_append_index len x ≡ true → x ≢ codes "-" → NamesStep (long_enough (Some (place len ∷ [])) (Some (an_array len))) x (place len)
names_end len x h dash = (omega arith, ⊎_elim (λ (e : x ≡ codes "-"). absurd (dash e)) (λ (e : x ≡ dec len). e) (means_end-cases len x h))

Finds-from : (n : NodeMap) (front : List Text) (w : Path) (rest : List Text) (p : Path) (left : List Text) (v : NodeMap) (l : Option Label) → IsSome (v []) → LacksDash rest → Names n front w → n w ≡ l → LandsFrom w l rest p left → Finds (made n p (expanded left v)) (front ++ rest) v
Finds-from n front w [] p left v l i dash h e r = subst (λ (ts : List Text). Finds (made n p (expanded ts v)) (front ++ []) v) (sym r.1) (subst (λ (u : Path). Finds (made n u v) (front ++ []) v) (sym r.0) (subst (λ (k : NodeMap). Finds k (front ++ []) v) (sym (made_named n front w v h)) (Finds-below n front [] w v v h i (record { path = []; named = i; below = refl }))))
Finds-from n front w (x ∷ rest) p left v None i dash h e r = absurd r
Finds-from n front w (x ∷ rest) p left v (Some an_object) i dash h e r =
    let inner = Finds-expanded rest v (λ xs ys f. dash (x ∷ xs) ys (ap (λ (ts : List Text). x ∷ ts) f)) i in
    let label : sub n w [] ≡ Some an_object = sub-root n w ∙ e in
    let new = Finds-child (sub n w) x rest (key x) (expanded rest v) v (subst (λ (o : Option Label). NamesStep (long_enough (Some (key x ∷ [])) o) x (key x)) (sym label) refl) inner in
    let all = Finds-below n front (x ∷ rest) w (made (sub n w) (key x ∷ []) (expanded rest v)) v h (some-room (sub n w []) (Some (key x ∷ [])) (some_label (sub n w []) an_object label)) new in
    subst (λ (ts : List Text). Finds (made n p (expanded ts v)) (front ++ x ∷ rest) v) (sym r.1) (subst (λ (u : Path). Finds (made n u (expanded rest v)) (front ++ x ∷ rest) v) (sym r.0) (subst (λ (k : NodeMap). Finds k (front ++ x ∷ rest) v) (sym (made_below n front w (key x ∷ []) (expanded rest v) h)) all))
Finds-from n front w (x ∷ rest) p left v (Some (an_array len)) i dash h e r =
    let inner = Finds-expanded rest v (λ xs ys f. dash (x ∷ xs) ys (ap (λ (ts : List Text). x ∷ ts) f)) i in
    let label : sub n w [] ≡ Some (an_array len) = sub-root n w ∙ e in
    let step = names_end len x r.0 (λ f. dash [] rest (ap (λ (t : Text). t ∷ rest) f)) in
    let new = Finds-child (sub n w) x rest (place len) (expanded rest v) v (subst (λ (o : Option Label). NamesStep (long_enough (Some (place len ∷ [])) o) x (place len)) (sym label) step) inner in
    let all = Finds-below n front (x ∷ rest) w (made (sub n w) (place len ∷ []) (expanded rest v)) v h (some-room (sub n w []) (Some (place len ∷ [])) (some_label (sub n w []) (an_array len) label)) new in
    subst (λ (ts : List Text). Finds (made n p (expanded ts v)) (front ++ x ∷ rest) v) (sym r.2) (subst (λ (u : Path). Finds (made n u (expanded rest v)) (front ++ x ∷ rest) v) (sym r.1) (subst (λ (k : NodeMap). Finds k (front ++ x ∷ rest) v) (sym (made_below n front w (place len ∷ []) (expanded rest v) h)) all))
Finds-from n front w (x ∷ rest) p left v (Some (a_leaf a)) i dash h e r =
    let inner = Finds-expanded (x ∷ rest) v dash i in
    let root : IsSome (expanded (x ∷ rest) v []) = Names-root (expanded (x ∷ rest) v) (x ∷ rest) inner.path inner.named in
    let all = Finds-below n front (x ∷ rest) w (expanded (x ∷ rest) v) v h root inner in
    subst (λ (ts : List Text). Finds (made n p (expanded ts v)) (front ++ x ∷ rest) v) (sym r.1) (subst (λ (u : Path). Finds (made n u (expanded (x ∷ rest) v)) (front ++ x ∷ rest) v) (sym r.0) (subst (λ (k : NodeMap). Finds k (front ++ x ∷ rest) v) (sym (made_named n front w (expanded (x ∷ rest) v) h)) all))

-- tokens without `-` find the value that was assigned at them
pub Assigns-Finds : (n : NodeMap) (tokens : List Text) (v m : NodeMap) (old : Option NodeMap) → Assigns n tokens v m old → LacksDash tokens → IsSome (v []) → Finds m tokens v
Assigns-Finds n tokens v m old r dash i =
    let s = r.lands.stops in
    let left : LacksDash r.lands.rest = λ xs ys e. dash (r.lands.front ++ xs) ys (s.split ∙ ap (λ (ts : List Text). r.lands.front ++ ts) e ∙ sym (append_assoc r.lands.front xs (codes "-" ∷ ys))) in
    let all = Finds-from n r.lands.front r.lands.path r.lands.rest r.path r.left v (n r.lands.path) i left s.named refl r.lands.lands in
    subst (λ (k : NodeMap). Finds k tokens v) (sym r.made) (subst (λ (ts : List Text). Finds (made n r.path (expanded r.left v)) ts v) (sym s.split) all)
