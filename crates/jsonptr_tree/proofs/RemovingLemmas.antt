-- What a deletion makes of a document: one map, a tree, with all else unchanged.
use Rattle.std.proofs.Common.{◌≡◌, ℕ, zero, suc, ◌-◌, ◌<◌, ◌≤◌, Bool, true, false, cond, is_some, List, [], ◌∷◌, ◌++◌, map, Contains, Option, Some, None, IsSome, ◌⊎◌, inl, inr, ⊎_elim, refl, sym, ap, ap₂, ◌∙◌, subst, arith, true≢false, append-nil, append_assoc, length, length-append, ◌+◌}
use Rattle.std.proofs.lemmas.Bool.{cases_lt}
use Rattle.std.proofs.lemmas.List.Elements.{Contains-append_left, Contains-append_right}
use mathlib.Core.Path.{fun_ext}
use Rattle.jsonptr_grammar.specs.Text.{Text, dec}
use Rattle.jsonptr_tree.specs.Node.{Step, key, place, Path, Label, an_object, an_array, a_leaf, NodeMap, sub, NamesStep, Names, MayHave, IsTree, IsListed}
use Rattle.jsonptr_tree.specs.Following.{Finds, StopsBefore}
use Rattle.jsonptr_tree.specs.Put.{GoesThrough, same_step, rest_after, put}
use Rattle.jsonptr_tree.specs.Removing.{one_less, place_before, without_key, without_place, without_step, Deletes}
use Rattle.jsonptr_tree.proofs.NodeLemmas.{dec_one, sub-root, Names-here, Names_one_path, Names-split, Names-append, IsTree-above, IsTree-sub, NamesStep_one_step}
use Rattle.jsonptr_tree.proofs.FollowingLemmas.{follows, Names-StopsBefore}
use Rattle.jsonptr_tree.proofs.PutLemmas.{same_step-refl, cases_same, cases_front, put_behind, put_none, put_other, Names-put, frame}
use Rattle.jsonptr_tree.proofs.ListedLemmas.{Contains-map, IsListed-sub, IsListed-put, IsListed-within}
use Rattle.jsonptr_tree.proofs.TreeLemmas.{IsTree-level, IsTree-child, IsTree-put}

-- the last step of a path

no_last : (w : Path) (s : Step) → [] ≡ w ++ s ∷ [] → ⊥
no_last [] s e = cc
no_last (t ∷ w) s e = cc

same_last : (w v : Path) (s t : Step) → w ++ s ∷ [] ≡ v ++ t ∷ [] → (w ≡ v) × (s ≡ t)
same_last [] [] s t e = (refl, cc)
same_last [] (b ∷ v) s t e =
    let tail : [] ≡ v ++ t ∷ [] = cc in
    absurd (no_last v t tail)
same_last (a ∷ w) [] s t e =
    let tail : [] ≡ w ++ s ∷ [] = cc in
    absurd (no_last w s tail)
same_last (a ∷ w) (b ∷ v) s t e =
    let tail : w ++ s ∷ [] ≡ v ++ t ∷ [] = cc in
    let head : a ≡ b = cc in
    let r = same_last w v s t tail in
    (ap₂ (λ (z : Step) (u : Path). z ∷ u) head r.0, r.1)

-- a path has no step, or a last one
cases_last : (w : Path) → (w ≡ []) ⊎ ((u : Path) × (s : Step) × (w ≡ u ++ s ∷ []))
cases_last [] = inl refl
cases_last (t ∷ w) = go (cases_last w)
  where
    go : (w ≡ []) ⊎ ((u : Path) × (s : Step) × (w ≡ u ++ s ∷ [])) → (t ∷ w ≡ []) ⊎ ((u : Path) × (s : Step) × (t ∷ w ≡ u ++ s ∷ []))
    go (inl e) = inr ([], t, ap (λ (p : Path). t ∷ p) e)
    go (inr r) = inr (t ∷ r.0, r.1, ap (λ (p : Path). t ∷ p) r.2)

-- what is deleted

-- the whole document
pub Deletes_whole : (n blank : NodeMap) → IsSome (n []) → Deletes n [] blank blank
Deletes_whole n blank root = record {
  whole = λ e. refl;
  child = λ w s h. absurd (no_step w s h);
  none = λ h. absurd (h [] root);
}
  where
    no_step : (w : Path) (s : Step) → Names n [] (w ++ s ∷ []) → ⊥
    no_step [] s h = h
    no_step (t ∷ w) s h = h

-- a node below another one
pub Deletes_child : (n blank : NodeMap) (tokens : List Text) (w : Path) (s : Step) → Names n tokens (w ++ s ∷ []) → Deletes n tokens blank (put n w (without_step s (sub n w)))
Deletes_child n blank tokens w s h = record {
  whole = λ e. absurd (some w (subst (λ (ts : List Text). Names n ts (w ++ s ∷ [])) e h));
  child = λ v t k.
      let same = same_last w v s t (Names_one_path n tokens (w ++ s ∷ []) (v ++ t ∷ []) h k) in
      ap₂ (λ (u : Path) (a : Step). put n u (without_step a (sub n u))) same.0 same.1;
  none = λ k. absurd (k (w ++ s ∷ []) h);
}
  where
    some : (w : Path) → Names n [] (w ++ s ∷ []) → ⊥
    some [] h = h
    some (t ∷ w) h = h

-- nothing
pub Deletes_none : (n blank : NodeMap) (tokens : List Text) → IsSome (n []) → ((w : Path) → Names n tokens w → ⊥) → Deletes n tokens blank n
Deletes_none n blank tokens root h = record {
  whole = λ e. absurd (h [] (subst (λ (ts : List Text). Names n ts []) (sym e) root));
  child = λ w s k. absurd (h (w ++ s ∷ []) k);
  none = λ k. refl;
}

-- nothing, where following stops before a token
pub Deletes_stops : (n blank : NodeMap) (tokens : List Text) (p o : ℕ) (l : Label) (x : Text) → IsSome (n []) → StopsBefore n tokens p o l x → Deletes n tokens blank n
Deletes_stops n blank tokens p o l x root r = Deletes_none n blank tokens root (λ w h. Names-StopsBefore n tokens w p o l x h r)

-- a deletion makes some map
pub Deletes-some : (n blank : NodeMap) (tokens : List Text) → IsTree n → (m : NodeMap) × Deletes n tokens blank m
Deletes-some n blank tokens tree = ⊎_elim
    (λ (r : (w : Path) × Names n tokens w). named r.0 r.1 (cases_last r.0))
    (λ (r : (p o : ℕ) × (l : Label) × (x : Text) × StopsBefore n tokens p o l x). (n, Deletes_stops n blank tokens r.0 r.1 r.2 r.3 tree.root r.4))
    (follows n tokens tree)
  where
    whole : (ts : List Text) → Names n ts [] → (m : NodeMap) × Deletes n ts blank m
    whole [] h = (blank, Deletes_whole n blank h)
    whole (x ∷ xs) h = absurd h

    named : (w : Path) → Names n tokens w → (w ≡ []) ⊎ ((u : Path) × (s : Step) × (w ≡ u ++ s ∷ [])) → (m : NodeMap) × Deletes n tokens blank m
    named w h (inl e) = whole tokens (subst (λ (p : Path). Names n tokens p) e h)
    named w h (inr r) = (put n r.0 (without_step r.1 (sub n r.0)), Deletes_child n blank tokens r.0 r.1 (subst (λ (p : Path). Names n tokens p) r.2 h))

-- and one only
pub Deletes_one : (n blank : NodeMap) (tokens : List Text) (m k : NodeMap) → IsTree n → Deletes n tokens blank m → Deletes n tokens blank k → m ≡ k
Deletes_one n blank tokens m k tree a b = ⊎_elim
    (λ (r : (w : Path) × Names n tokens w). named r.0 r.1 (cases_last r.0))
    (λ (r : (p o : ℕ) × (l : Label) × (x : Text) × StopsBefore n tokens p o l x).
    let none : (w : Path) → Names n tokens w → ⊥ = λ w h. Names-StopsBefore n tokens w r.0 r.1 r.2 r.3 h r.4 in
    a.none none ∙ sym (b.none none))
    (follows n tokens tree)
  where
    whole : (ts : List Text) → Names n ts [] → ts ≡ []
    whole [] h = refl
    whole (x ∷ xs) h = absurd h

    named : (w : Path) → Names n tokens w → (w ≡ []) ⊎ ((u : Path) × (s : Step) × (w ≡ u ++ s ∷ [])) → m ≡ k
    named w h (inl e) =
        let none_left : tokens ≡ [] = whole tokens (subst (λ (p : Path). Names n tokens p) e h) in
        a.whole none_left ∙ sym (b.whole none_left)
    named w h (inr r) =
        let there : Names n tokens (r.0 ++ r.1 ∷ []) = subst (λ (p : Path). Names n tokens p) r.2 h in
        a.child r.0 r.1 there ∙ sym (b.child r.0 r.1 there)

-- indices

pub place_before-below : (i j : ℕ) → j < i → place_before i j ≡ j
place_before-below zero j h = absurd (omega arith)
place_before-below (suc i) zero h = refl
place_before-below (suc i) (suc j) h = ap suc (place_before-below i j (omega arith))

pub place_before-from : (i j : ℕ) → i ≤ j → place_before i j ≡ suc j
place_before-from zero j h = refl
place_before-from (suc i) zero h = absurd (omega arith)
place_before-from (suc i) (suc j) h = ap suc (place_before-from i j (omega arith))

-- the indices of the shorter array are those of the longer one except i
place_before-inside : (i j len : ℕ) → i < len → place_before i j < len → j < len - 1
place_before-inside i j len h b = ⊎_elim
    (λ (below : j < i). omega arith)
    (λ (from : i ≤ j). at from (place_before-from i j from))
    (cases_lt j i)
  where
    at : i ≤ j → place_before i j ≡ suc j → j < len - 1
    at from e = omega arith

place_before-within : (i j len : ℕ) → j < len - 1 → place_before i j < len
place_before-within i j len b = ⊎_elim
    (λ (below : j < i). low (place_before-below i j below))
    (λ (from : i ≤ j). high (place_before-from i j from))
    (cases_lt j i)
  where
    low : place_before i j ≡ j → place_before i j < len
    low e = omega arith

    high : place_before i j ≡ suc j → place_before i j < len
    high e = omega arith

-- trees

pub without_key-same : (k : Text) (n : NodeMap) (p : Path) → without_key k n (key k ∷ p) ≡ None
without_key-same k n p = ap (λ (b : Bool). cond b None (n (key k ∷ p))) (same_step-refl (key k))

pub without_key-other : (k : Text) (n : NodeMap) (t : Step) (p : Path) → same_step (key k) t ≡ false → without_key k n (t ∷ p) ≡ n (t ∷ p)
without_key-other k n t p e = ap (λ (b : Bool). cond b None (n (t ∷ p))) e

IsTree-without_key : (k : Text) (n : NodeMap) → IsTree n → IsTree (without_key k n)
IsTree-without_key k n tree = IsTree-level (without_key k n) tree.root child (λ len i e b. tree.full [] len i e b)
  where
    child : (t : Step) (u : Path) → IsSome (without_key k n (t ∷ u)) → MayHave (n []) t × IsTree (sub (without_key k n) (t ∷ []))
    child t u i = go (cases_same (key k) t)
      where
        go : (key k ≡ t) ⊎ (same_step (key k) t ≡ false) → MayHave (n []) t × IsTree (sub (without_key k n) (t ∷ []))
        go (inl e) = absurd (true≢false (sym (subst (λ (a : Step). IsSome (without_key k n (a ∷ u))) (sym e) i) ∙ ap (λ (o : Option Label). is_some o) (without_key-same k n u)))
        go (inr e) =
            let same : sub (without_key k n) (t ∷ []) ≡ sub n (t ∷ []) = fun_ext (λ (p : Path). without_key-other k n t p e) in
            let old = IsTree-child n tree t u (subst (λ (q : NodeMap). IsSome (q u)) same i) in
            (old.0, subst IsTree (sym same) old.1)

some_less : (o : Option Label) → IsSome o → IsSome (one_less o)
some_less None h = h
some_less (Some an_object) h = refl
some_less (Some (an_array len)) h = refl
some_less (Some (a_leaf v)) h = refl

less_some : (o : Option Label) → IsSome (one_less o) → IsSome o
less_some None h = h
less_some (Some l) h = refl

less_key : (o : Option Label) (k : Text) → MayHave o (key k) → MayHave (one_less o) (key k)
less_key None k h = h
less_key (Some an_object) k h = h
less_key (Some (an_array len)) k h = h
less_key (Some (a_leaf v)) k h = h

less_place : (o : Option Label) (i j : ℕ) → MayHave o (place i) → MayHave o (place (place_before i j)) → MayHave (one_less o) (place j)
less_place None i j h b = h
less_place (Some an_object) i j h b = h
less_place (Some (an_array len)) i j h b = place_before-inside i j len h b
less_place (Some (a_leaf v)) i j h b = h

less_full : (o : Option Label) (i len : ℕ) → MayHave o (place i) → one_less o ≡ Some (an_array len) → (k : ℕ) × (o ≡ Some (an_array k)) × (len ≡ k - 1)
less_full None i len h e = absurd h
less_full (Some an_object) i len h e = absurd h
less_full (Some (an_array k)) i len h e = (k, refl, cc)
less_full (Some (a_leaf v)) i len h e = absurd h

IsTree-without_place : (i : ℕ) (n : NodeMap) → IsTree n → MayHave (n []) (place i) → IsTree (without_place i n)
IsTree-without_place i n tree may = IsTree-level (without_place i n) (some_less (n []) tree.root) child full
  where
    child : (t : Step) (u : Path) → IsSome (without_place i n (t ∷ u)) → MayHave (one_less (n [])) t × IsTree (sub (without_place i n) (t ∷ []))
    child (key k) u h =
        let old = IsTree-child n tree (key k) u h in
        (less_key (n []) k old.0, old.1)
    child (place j) u h =
        let old = IsTree-child n tree (place (place_before i j)) u h in
        (less_place (n []) i j may old.0, old.1)

    full : (len j : ℕ) → one_less (n []) ≡ Some (an_array len) → j < len → IsSome (without_place i n (place j ∷ []))
    full len j e b =
        let r = less_full (n []) i len may e in
        tree.full [] r.0 (place_before i j) r.1 (place_before-within i j r.0 (inside r.0 r.2))
      where
        inside : (k : ℕ) → len ≡ k - 1 → j < k - 1
        inside k e = omega arith

-- a tree without a child of its root
pub IsTree-without : (n : NodeMap) (s : Step) → IsTree n → IsSome (n (s ∷ [])) → IsTree (without_step s n)
IsTree-without n (key k) tree i = IsTree-without_key k n tree
IsTree-without n (place j) tree i = IsTree-without_place j n tree (tree.parent [] (place j) i)

-- finite maps

-- a path of the longer array, with each index except the first lower by one
lower : Path → Path
lower [] = []
lower (key k ∷ p) = key k ∷ p
lower (place zero ∷ p) = place zero ∷ p
lower (place (suc j) ∷ p) = place j ∷ p

IsListed-without_place : (i : ℕ) (n : NodeMap) → IsListed n → IsListed (without_place i n)
unfolding lower
IsListed-without_place i n h = (h.0 ++ map lower h.0, listed)
  where
    old : (w : Path) → IsSome (n w) → Contains (h.0 ++ map lower h.0) w
    old w some = Contains-append_left h.0 (map lower h.0) w (h.1 w some)

    moved : (j : ℕ) (w : Path) → IsSome (n (place (suc j) ∷ w)) → Contains (h.0 ++ map lower h.0) (place j ∷ w)
    moved j w some = Contains-append_right h.0 (map lower h.0) (place j ∷ w) (Contains-map lower h.0 (place (suc j) ∷ w) (h.1 (place (suc j) ∷ w) some))

    listed : (w : Path) → IsSome (without_place i n w) → Contains (h.0 ++ map lower h.0) w
    listed [] some = old [] (less_some (n []) some)
    listed (key k ∷ w) some = old (key k ∷ w) some
    listed (place j ∷ w) some = ⊎_elim
        (λ (below : j < i). old (place j ∷ w) (subst (λ (k : ℕ). IsSome (n (place k ∷ w))) (place_before-below i j below) some))
        (λ (from : i ≤ j). moved j w (subst (λ (k : ℕ). IsSome (n (place k ∷ w))) (place_before-from i j from) some))
        (cases_lt j i)

IsListed-without_key : (k : Text) (n : NodeMap) → IsListed n → IsListed (without_key k n)
IsListed-without_key k n h = IsListed-within n (without_key k n) within h
  where
    by_test : (b : Bool) (o : Option Label) → IsSome (cond b None o) → IsSome o
    by_test true o i = absurd (true≢false (sym i))
    by_test false o i = i

    within : (w : Path) → IsSome (without_key k n w) → IsSome (n w)
    within [] i = i
    within (t ∷ w) i = by_test (same_step (key k) t) (n (t ∷ w)) i

pub IsListed-without : (n : NodeMap) (s : Step) → IsListed n → IsListed (without_step s n)
IsListed-without n (key k) h = IsListed-without_key k n h
IsListed-without n (place j) h = IsListed-without_place j n h

-- what a deletion in a tree leaves

-- the blank document, or all except one node and what is below it, or all
Deletes-cases : (n blank : NodeMap) (tokens : List Text) (m : NodeMap) → IsTree n → Deletes n tokens blank m → (m ≡ blank) ⊎ (((w : Path) × (s : Step) × Names n tokens (w ++ s ∷ []) × (m ≡ put n w (without_step s (sub n w)))) ⊎ (m ≡ n))
Deletes-cases n blank tokens m tree a = ⊎_elim
    (λ (r : (w : Path) × Names n tokens w). named r.0 r.1 (cases_last r.0))
    (λ (r : (p o : ℕ) × (l : Label) × (x : Text) × StopsBefore n tokens p o l x). inr (inr (a.none (λ w h. Names-StopsBefore n tokens w r.0 r.1 r.2 r.3 h r.4))))
    (follows n tokens tree)
  where
    whole : (ts : List Text) → Names n ts [] → ts ≡ []
    whole [] h = refl
    whole (x ∷ xs) h = absurd h

    named : (w : Path) → Names n tokens w → (w ≡ []) ⊎ ((u : Path) × (s : Step) × (w ≡ u ++ s ∷ [])) → (m ≡ blank) ⊎ (((w : Path) × (s : Step) × Names n tokens (w ++ s ∷ []) × (m ≡ put n w (without_step s (sub n w)))) ⊎ (m ≡ n))
    named w h (inl e) = inl (a.whole (whole tokens (subst (λ (p : Path). Names n tokens p) e h)))
    named w h (inr r) =
        let there : Names n tokens (r.0 ++ r.1 ∷ []) = subst (λ (p : Path). Names n tokens p) r.2 h in
        inr (inl (r.0, r.1, there, a.child r.0 r.1 there))

-- a tree
pub Deletes-tree : (n blank : NodeMap) (tokens : List Text) (m : NodeMap) → IsTree n → IsTree blank → Deletes n tokens blank m → IsTree m
Deletes-tree n blank tokens m tree new r = ⊎_elim
    (λ (e : m ≡ blank). subst IsTree (sym e) new)
    (λ (o : ((w : Path) × (s : Step) × Names n tokens (w ++ s ∷ []) × (m ≡ put n w (without_step s (sub n w)))) ⊎ (m ≡ n)). ⊎_elim
    (λ (c : (w : Path) × (s : Step) × Names n tokens (w ++ s ∷ []) × (m ≡ put n w (without_step s (sub n w)))). child c.0 c.1 c.2 c.3)
    (λ (e : m ≡ n). subst IsTree (sym e) tree)
    o)
    (Deletes-cases n blank tokens m tree r)
  where
    child : (w : Path) (s : Step) → Names n tokens (w ++ s ∷ []) → m ≡ put n w (without_step s (sub n w)) → IsTree m
    child w s h e =
        let there : IsSome (n (w ++ s ∷ [])) = Names-here n tokens (w ++ s ∷ []) h in
        let above : IsSome (n w) = IsTree-above n tree w (s ∷ []) there in
        subst IsTree (sym e) (IsTree-put n w (without_step s (sub n w)) tree above (IsTree-without (sub n w) s (IsTree-sub n w tree above) there))

-- a finite map
pub Deletes-finite : (n blank : NodeMap) (tokens : List Text) (m : NodeMap) → IsTree n → IsListed n → IsListed blank → Deletes n tokens blank m → IsListed m
Deletes-finite n blank tokens m tree a b r = ⊎_elim
    (λ (e : m ≡ blank). subst IsListed (sym e) b)
    (λ (o : ((w : Path) × (s : Step) × Names n tokens (w ++ s ∷ []) × (m ≡ put n w (without_step s (sub n w)))) ⊎ (m ≡ n)). ⊎_elim
    (λ (c : (w : Path) × (s : Step) × Names n tokens (w ++ s ∷ []) × (m ≡ put n w (without_step s (sub n w)))). child c.0 c.1 c.3)
    (λ (e : m ≡ n). subst IsListed (sym e) a)
    o)
    (Deletes-cases n blank tokens m tree r)
  where
    child : (w : Path) (s : Step) → m ≡ put n w (without_step s (sub n w)) → IsListed m
    child w s e = subst IsListed (sym e) (IsListed-put n w (without_step s (sub n w)) a (IsListed-without (sub n w) s (IsListed-sub n w a)))

-- a member that goes

-- no path goes through it
pub member_gone : (n blank : NodeMap) (tokens : List Text) (m : NodeMap) (w : Path) (k : Text) (p : Path) → Deletes n tokens blank m → Names n tokens (w ++ key k ∷ []) → m (w ++ key k ∷ p) ≡ None
member_gone n blank tokens m w k p r h = ap (λ (q : NodeMap). q (w ++ key k ∷ p)) (r.child w (key k) h) ∙ put_behind n w (without_key k (sub n w)) (key k ∷ p) ∙ without_key-same k (sub n w) p

-- and every other one is unchanged
pub member_others : (n blank : NodeMap) (tokens : List Text) (m : NodeMap) (w : Path) (k : Text) (p : Path) → Deletes n tokens blank m → Names n tokens (w ++ key k ∷ []) → (GoesThrough p (w ++ key k ∷ []) → ⊥) → m p ≡ n p
member_others n blank tokens m w k p r h away = ap (λ (q : NodeMap). q p) (r.child w (key k) h) ∙ ⊎_elim
    (λ (c : GoesThrough p w). ap (put n w (without_key k (sub n w))) c.1 ∙ put_behind n w (without_key k (sub n w)) c.0 ∙ behind c.0 (λ q e. away (q, c.1 ∙ ap (λ (u : Path). w ++ u) e ∙ sym (append_assoc w (key k ∷ []) q))) ∙ sym (ap n c.1))
    (λ (e : rest_after w p ≡ None). put_none n w (without_key k (sub n w)) p e)
    (cases_front w p)
  where
    behind : (q : Path) → ((u : Path) → q ≡ key k ∷ u → ⊥) → without_key k (sub n w) q ≡ n (w ++ q)
    behind [] away = refl
    behind (t ∷ q) away = ⊎_elim
        (λ (e : key k ≡ t). absurd (away q (ap (λ (a : Step). a ∷ q) (sym e))))
        (λ (e : same_step (key k) t ≡ false). without_key-other k (sub n w) t q e)
        (cases_same (key k) t)

-- an element that goes

element_made : (n blank : NodeMap) (tokens : List Text) (m : NodeMap) (w : Path) (i : ℕ) (p : Path) → Deletes n tokens blank m → Names n tokens (w ++ place i ∷ []) → m (w ++ p) ≡ without_place i (sub n w) p
element_made n blank tokens m w i p r h = ap (λ (q : NodeMap). q (w ++ p)) (r.child w (place i) h) ∙ put_behind n w (without_place i (sub n w)) p

at_place : (n : NodeMap) (w : Path) (j : ℕ) (p : Path) → n (w ++ place j ∷ p) ≡ n ((w ++ place j ∷ []) ++ p)
at_place n w j p = ap n (sym (append_assoc w (place j ∷ []) p))

-- its array has one element less
pub element_less : (n blank : NodeMap) (tokens : List Text) (m : NodeMap) (w : Path) (i len : ℕ) → Deletes n tokens blank m → Names n tokens (w ++ place i ∷ []) → n w ≡ Some (an_array len) → m w ≡ Some (an_array (len - 1))
element_less n blank tokens m w i len r h e = ap m (sym (append-nil w)) ∙ element_made n blank tokens m w i [] r h ∙ ap one_less (sub-root n w ∙ e)

-- an earlier one keeps its index
pub element_before : (n blank : NodeMap) (tokens : List Text) (m : NodeMap) (w : Path) (i j : ℕ) → Deletes n tokens blank m → Names n tokens (w ++ place i ∷ []) → j < i → sub m (w ++ place j ∷ []) ≡ sub n (w ++ place j ∷ [])
element_before n blank tokens m w i j r h b = fun_ext (λ (p : Path). sym (at_place m w j p) ∙ element_made n blank tokens m w i (place j ∷ p) r h ∙ ap (λ (k : ℕ). n (w ++ place k ∷ p)) (place_before-below i j b) ∙ at_place n w j p)

-- a later one has an index that is lower by one
pub element_after : (n blank : NodeMap) (tokens : List Text) (m : NodeMap) (w : Path) (i j : ℕ) → Deletes n tokens blank m → Names n tokens (w ++ place i ∷ []) → i ≤ j → sub m (w ++ place j ∷ []) ≡ sub n (w ++ place (suc j) ∷ [])
element_after n blank tokens m w i j r h b = fun_ext (λ (p : Path). sym (at_place m w j p) ∙ element_made n blank tokens m w i (place j ∷ p) r h ∙ ap (λ (k : ℕ). n (w ++ place k ∷ p)) (place_before-from i j b) ∙ at_place n w (suc j) p)

-- all that is not below the array is unchanged
pub element_others : (n blank : NodeMap) (tokens : List Text) (m : NodeMap) (w : Path) (i : ℕ) (p : Path) → Deletes n tokens blank m → Names n tokens (w ++ place i ∷ []) → (GoesThrough p w → ⊥) → m p ≡ n p
element_others n blank tokens m w i p r h away = ap (λ (q : NodeMap). q p) (r.child w (place i) h) ∙ put_other n w (without_place i (sub n w)) p away

-- finding, after a deletion

-- what is neither the member nor below it is found as before
pub member_frame : (n blank : NodeMap) (tokens : List Text) (m : NodeMap) (w : Path) (k : Text) → Deletes n tokens blank m → Names n tokens (w ++ key k ∷ []) → (others : List Text) (q : Path) → Names n others q → (GoesThrough q (w ++ key k ∷ []) → ⊥) → Names m others q × ((GoesThrough (w ++ key k ∷ []) q → ⊥) → sub m q ≡ sub n q)
member_frame n blank tokens m w k r h others q names away = frame n m (w ++ key k ∷ []) (λ p a. member_others n blank tokens m w k p r h a) others q names away

-- nor in the array
pub element_frame : (n blank : NodeMap) (tokens : List Text) (m : NodeMap) (w : Path) (i : ℕ) → Deletes n tokens blank m → Names n tokens (w ++ place i ∷ []) → (others : List Text) (q : Path) → Names n others q → (GoesThrough q w → ⊥) → Names m others q × ((GoesThrough w q → ⊥) → sub m q ≡ sub n q)
element_frame n blank tokens m w i r h others q names away = frame n m w (λ p a. element_others n blank tokens m w i p r h a) others q names away

array_at : (o : Option Label) (x : Text) (i : ℕ) → NamesStep o x (place i) → (len : ℕ) × (o ≡ Some (an_array len)) × (i < len)
array_at None x i h = absurd h
array_at (Some an_object) x i h = absurd h
array_at (Some (an_array len)) x i h = (len, refl, h.0)
array_at (Some (a_leaf v)) x i h = absurd h

-- above an element is an array that has its index
array_above : (n : NodeMap) (tokens : List Text) (w : Path) (i : ℕ) → Names n tokens (w ++ place i ∷ []) → (len : ℕ) × (n w ≡ Some (an_array len)) × (i < len)
array_above n [] [] i h = absurd h
array_above n [] (t ∷ w) i h = absurd h
array_above n (x ∷ xs) [] i h = array_at (n []) x i h.0
array_above n (x ∷ xs) (t ∷ w) i h = array_above (sub n (t ∷ [])) xs w i h.1

-- tokens that found something through an index find it through its new index
moved : (n blank : NodeMap) (tokens : List Text) (m k : NodeMap) (w : Path) (i j : ℕ) (front rest : List Text) → Deletes n tokens blank m → Names n tokens (w ++ place i ∷ []) → Names n front w → Finds n (front ++ dec (place_before i j) ∷ rest) k → Finds m (front ++ dec j ∷ rest) k
moved n blank tokens m k w i j front rest r h names f =
    let parts = Names-split n front (dec (place_before i j) ∷ rest) f.path f.named in
    let same : parts.0 ≡ w = Names_one_path n front parts.0 w parts.3 names in
    let below : Names (sub n w) (dec (place_before i j) ∷ rest) parts.1 = subst (λ (u : Path). Names (sub n u) (dec (place_before i j) ∷ rest) parts.1) same parts.4 in
    let array = array_above n tokens w i h in
    go array.0 array.1 array.2 parts.1 below (f.below ∙ ap (sub n) (parts.2 ∙ ap (λ (u : Path). u ++ parts.1) same))
  where
    old_root : (len : ℕ) → n w ≡ Some (an_array len) → IsSome (without_place i (sub n w) [])
    old_root len e = some_less (n (w ++ [])) (subst (λ (o : Option Label). IsSome o) (sym (sub-root n w ∙ e)) refl)

    front_there : (len : ℕ) → n w ≡ Some (an_array len) → Names m front w
    front_there len e = subst (λ (p : NodeMap). Names p front w) (sym (r.child w (place i) h)) (Names-put n front w (without_place i (sub n w)) names (old_root len e))

    the_place : (len : ℕ) (s : Step) → NamesStep (Some (an_array len)) (dec (place_before i j)) s → (s ≡ place (place_before i j)) × (place_before i j < len)
    the_place len (key a) b = absurd b
    the_place len (place a) b =
        let one : place_before i j ≡ a = dec_one (place_before i j) a b.1 in
        (ap place (sym one), subst (λ (c : ℕ). c < len) (sym one) b.0)

    label : (len : ℕ) → n w ≡ Some (an_array len) → sub m w [] ≡ Some (an_array (len - 1))
    label len e = sub-root m w ∙ element_less n blank tokens m w i len r h e

    there : (u : Path) (p : Path) → m (w ++ (place j ∷ (u ++ p))) ≡ n (w ++ (place (place_before i j) ∷ (u ++ p)))
    there u p = element_made n blank tokens m w i (place j ∷ (u ++ p)) r h

    go : (len : ℕ) → n w ≡ Some (an_array len) → i < len → (u : Path) → Names (sub n w) (dec (place_before i j) ∷ rest) u → k ≡ sub n (w ++ u) → Finds m (front ++ dec j ∷ rest) k
    go len e b [] below is = absurd below
    go len e b (s ∷ u) below is =
        let at = the_place len s (subst (λ (o : Option Label). NamesStep o (dec (place_before i j)) s) (sub-root n w ∙ e) below.0) in
        let old : Names (sub (sub n w) (place (place_before i j) ∷ [])) rest u = subst (λ (a : Step). Names (sub (sub n w) (a ∷ [])) rest u) at.0 below.1 in
        let new_step : NamesStep (Some (an_array (len - 1))) (dec j) (place j) = (place_before-inside i j len b at.1, refl) in
        record {
          path = w ++ place j ∷ u;
          named = Names-append m front (dec j ∷ rest) w (place j ∷ u) (front_there len e) (
            subst (λ (o : Option Label). NamesStep o (dec j) (place j)) (sym (label len e)) new_step,
            subst (λ (p : NodeMap). Names p rest u) (sym (fun_ext (λ (p : Path). there [] p))) old,
          );
          below = is ∙ ap (λ (a : Step). sub n (w ++ a ∷ u)) at.0 ∙ fun_ext (λ (p : Path). ap n (append_assoc w (place (place_before i j) ∷ u) p) ∙ sym (there u p) ∙ sym (ap m (append_assoc w (place j ∷ u) p)));
        }

-- a later element is found at the index before its own
pub element_lower : (n blank : NodeMap) (tokens : List Text) (m k : NodeMap) (w : Path) (i j : ℕ) (front rest : List Text) → Deletes n tokens blank m → Names n tokens (w ++ place i ∷ []) → Names n front w → i ≤ j → Finds n (front ++ dec (suc j) ∷ rest) k → Finds m (front ++ dec j ∷ rest) k
element_lower n blank tokens m k w i j front rest r h names b f = moved n blank tokens m k w i j front rest r h names (subst (λ (a : ℕ). Finds n (front ++ dec a ∷ rest) k) (sym (place_before-from i j b)) f)

-- an earlier one at its own
pub element_kept : (n blank : NodeMap) (tokens : List Text) (m k : NodeMap) (w : Path) (i j : ℕ) (front rest : List Text) → Deletes n tokens blank m → Names n tokens (w ++ place i ∷ []) → Names n front w → j < i → Finds n (front ++ dec j ∷ rest) k → Finds m (front ++ dec j ∷ rest) k
element_kept n blank tokens m k w i j front rest r h names b f = moved n blank tokens m k w i j front rest r h names (subst (λ (a : ℕ). Finds n (front ++ dec a ∷ rest) k) (sym (place_before-below i j b)) f)

-- tokens name one path in two maps that agree on the labels above it
same_way : (n m : NodeMap) (xs : List Text) (q p : Path) → ((v u : Path) (s : Step) → q ≡ v ++ s ∷ u → m v ≡ n v) → Names n xs q → Names m xs p → p ≡ q
same_way n m [] [] [] same h k = refl
same_way n m [] [] (t ∷ p) same h k = absurd k
same_way n m [] (s ∷ q) p same h k = absurd h
same_way n m (x ∷ xs) [] p same h k = absurd h
same_way n m (x ∷ xs) (s ∷ q) [] same h k = absurd k
same_way n m (x ∷ xs) (s ∷ q) (t ∷ p) same h k =
    let first : NamesStep (n []) x t = subst (λ (o : Option Label). NamesStep o x t) (same [] q s refl) k.0 in
    let e : t ≡ s = NamesStep_one_step (n []) x t s first h.0 in
    ap₂ (λ (a : Step) (u : Path). a ∷ u) e (same_way (sub n (s ∷ [])) (sub m (s ∷ [])) xs q p (λ v u a f. same (s ∷ v) u a (ap (λ (b : Path). s ∷ b) f)) h.1 (subst (λ (r : Step). Names (sub m (r ∷ [])) xs p) e k.1))

-- the tokens that named the member name nothing any more
pub member_forgotten : (n blank : NodeMap) (tokens : List Text) (m : NodeMap) (w : Path) (k : Text) (p : Path) → Deletes n tokens blank m → Names n tokens (w ++ key k ∷ []) → Names m tokens p → ⊥
member_forgotten n blank tokens m w k p r h names =
    let here : p ≡ w ++ key k ∷ [] = same_way n m tokens (w ++ key k ∷ []) p way h names in
    true≢false (sym (subst (λ (q : Path). IsSome (m q)) here (Names-here m tokens p names)) ∙ ap (λ (o : Option Label). is_some o) (member_gone n blank tokens m w k [] r h))
  where
    shorter : (q v u a : Path) (s : Step) → q ≡ v ++ s ∷ u → v ≡ q ++ a → ⊥
    shorter q v u a s e f =
        let one : length q ≡ length (v ++ s ∷ u) = ap (λ (b : Path). length b) e in
        let two : length v ≡ length (q ++ a) = ap (λ (b : Path). length b) f in
        let three : length (v ++ s ∷ u) ≡ length v + length (s ∷ u) = length-append v (s ∷ u) in
        let four : length (q ++ a) ≡ length q + length a = length-append q a in
        omega arith

    way : (v u : Path) (s : Step) → w ++ key k ∷ [] ≡ v ++ s ∷ u → m v ≡ n v
    way v u s e = member_others n blank tokens m w k v r h (λ c. shorter (w ++ key k ∷ []) v u c.0 s e c.1)
