-- Insertion into an array: it undoes a deletion at the same index, and a deletion there undoes it.
use Rattle.std.proofs.Common.{◌≡◌, ℕ, zero, suc, ◌-◌, ◌<◌, ◌≤◌, [], ◌∷◌, ◌++◌, map, Contains, Option, Some, None, option_map, IsSome, ◌⊎◌, inl, inr, ⊎_elim, refl, sym, ap, ◌∙◌, subst, arith}
use Rattle.std.proofs.lemmas.Bool.{cases_lt}
use Rattle.std.proofs.lemmas.List.Elements.{Contains-append_left, Contains-append_right}
use mathlib.Core.Path.{fun_ext}
use Rattle.jsonptr.specs.Node.{Step, key, place, Path, Label, an_array, NodeMap, sub, MayHave, IsTree, IsListed}
use Rattle.jsonptr.specs.Removing.{one_less, place_before, without_place}
use Rattle.jsonptr_tree.proofs.ListedLemmas.{Contains-map}
use Rattle.jsonptr_tree.proofs.RemovingLemmas.{place_before-below, place_before-from}
use Rattle.jsonptr_tree.proofs.TreeLemmas.{IsTree-level, IsTree-child}
use Rattle.jsonptr_patch.specs.Inserting.{one_more, place_of_old, below_element, with_place}

-- indices

pub place_of_old-same : (i : ℕ) → place_of_old i i ≡ None
place_of_old-same zero = refl
place_of_old-same (suc i) = ap (option_map suc) (place_of_old-same i)

pub place_of_old-below : (i j : ℕ) → j < i → place_of_old i j ≡ Some j
place_of_old-below zero j h = absurd (omega arith)
place_of_old-below (suc i) zero h = refl
place_of_old-below (suc i) (suc j) h = ap (option_map suc) (place_of_old-below i j (omega arith))

pub place_of_old-above : (i j : ℕ) → i ≤ j → place_of_old i (suc j) ≡ Some j
place_of_old-above zero j h = refl
place_of_old-above (suc i) zero h = absurd (omega arith)
place_of_old-above (suc i) (suc j) h = ap (option_map suc) (place_of_old-above i j (omega arith))

-- an index is less than the new one, equal to it, or the successor of one that is not less
pub cases_place : (i j : ℕ) → (j < i) ⊎ ((j ≡ i) ⊎ ((k : ℕ) × (j ≡ suc k) × (i ≤ k)))
cases_place zero zero = inr (inl refl)
cases_place zero (suc j) = inr (inr (j, refl, omega arith))
cases_place (suc i) zero = inl (omega arith)
cases_place (suc i) (suc j) = ⊎_elim
    (λ (b : j < i). inl (omega arith))
    (λ (r : (j ≡ i) ⊎ ((k : ℕ) × (j ≡ suc k) × (i ≤ k))). ⊎_elim
    (λ (e : j ≡ i). inr (inl (ap suc e)))
    (λ (s : (k : ℕ) × (j ≡ suc k) × (i ≤ k)). inr (inr (suc s.0, ap suc s.1, omega (arith, s.2))))
    r)
    (cases_place i j)

old_before : (i j : ℕ) → place_of_old i (place_before i j) ≡ Some j
old_before i j = ⊎_elim
    (λ (b : j < i). ap (place_of_old i) (place_before-below i j b) ∙ place_of_old-below i j b)
    (λ (b : i ≤ j). ap (place_of_old i) (place_before-from i j b) ∙ place_of_old-above i j b)
    (cases_lt j i)

-- the map below an element

pub with_place-same : (i : ℕ) (v n : NodeMap) → sub (with_place i v n) (place i ∷ []) ≡ v
with_place-same i v n = fun_ext (λ (p : Path). ap (λ (o : Option ℕ). below_element o v n p) (place_of_old-same i))

pub with_place-below : (i j : ℕ) (v n : NodeMap) → j < i → sub (with_place i v n) (place j ∷ []) ≡ sub n (place j ∷ [])
with_place-below i j v n h = fun_ext (λ (p : Path). ap (λ (o : Option ℕ). below_element o v n p) (place_of_old-below i j h))

pub with_place-above : (i j : ℕ) (v n : NodeMap) → i ≤ j → sub (with_place i v n) (place (suc j) ∷ []) ≡ sub n (place j ∷ [])
with_place-above i j v n h = fun_ext (λ (p : Path). ap (λ (o : Option ℕ). below_element o v n p) (place_of_old-above i j h))

pub with_place-root : (i len : ℕ) (v n : NodeMap) → n [] ≡ Some (an_array len) → with_place i v n [] ≡ Some (an_array (suc len))
with_place-root i len v n e = ap one_more e

-- inverses

pub without-with : (n : NodeMap) (i len : ℕ) (v : NodeMap) → n [] ≡ Some (an_array len) → without_place i (with_place i v n) ≡ n
without-with n i len v e = fun_ext go
  where
    less : suc len - 1 ≡ len
    less = omega arith

    go : (p : Path) → without_place i (with_place i v n) p ≡ n p
    go [] = ap (λ (o : Option Label). one_less (one_more o)) e ∙ ap (λ (k : ℕ). Some (an_array k)) less ∙ sym e
    go (key k ∷ p) = refl
    go (place j ∷ p) = ap (λ (o : Option ℕ). below_element o v n p) (old_before i j)

pub with-without : (n : NodeMap) (i len : ℕ) → n [] ≡ Some (an_array len) → i < len → with_place i (sub n (place i ∷ [])) (without_place i n) ≡ n
with-without n i len e h = fun_ext go
  where
    more : suc (len - 1) ≡ len
    more = omega arith

    below : (j : ℕ) (p : Path) → j < i → below_element (place_of_old i j) (sub n (place i ∷ [])) (without_place i n) p ≡ n (place j ∷ p)
    below j p b = ap (λ (o : Option ℕ). below_element o (sub n (place i ∷ [])) (without_place i n) p) (place_of_old-below i j b) ∙ ap (λ (k : ℕ). n (place k ∷ p)) (place_before-below i j b)

    same : (j : ℕ) (p : Path) → j ≡ i → below_element (place_of_old i j) (sub n (place i ∷ [])) (without_place i n) p ≡ n (place j ∷ p)
    same j p e = subst (λ (k : ℕ). below_element (place_of_old i k) (sub n (place i ∷ [])) (without_place i n) p ≡ n (place k ∷ p)) (sym e) (ap (λ (o : Option ℕ). below_element o (sub n (place i ∷ [])) (without_place i n) p) (place_of_old-same i))

    above : (j k : ℕ) (p : Path) → j ≡ suc k → i ≤ k → below_element (place_of_old i j) (sub n (place i ∷ [])) (without_place i n) p ≡ n (place j ∷ p)
    above j k p e b = subst (λ (a : ℕ). below_element (place_of_old i a) (sub n (place i ∷ [])) (without_place i n) p ≡ n (place a ∷ p)) (sym e) (ap (λ (o : Option ℕ). below_element o (sub n (place i ∷ [])) (without_place i n) p) (place_of_old-above i k b) ∙ ap (λ (a : ℕ). n (place a ∷ p)) (place_before-from i k b))

    go : (p : Path) → with_place i (sub n (place i ∷ [])) (without_place i n) p ≡ n p
    go [] = ap (λ (o : Option Label). one_more (one_less o)) e ∙ ap (λ (k : ℕ). Some (an_array k)) more ∙ sym e
    go (key k ∷ p) = refl
    go (place j ∷ p) = ⊎_elim
        (λ (b : j < i). below j p b)
        (λ (r : (j ≡ i) ⊎ ((k : ℕ) × (j ≡ suc k) × (i ≤ k))). ⊎_elim
        (λ (e : j ≡ i). same j p e)
        (λ (s : (k : ℕ) × (j ≡ suc k) × (i ≤ k)). above j s.0 p s.1 s.2)
        r)
        (cases_place i j)

-- trees

pub IsTree-with_place : (n : NodeMap) (i len : ℕ) (v : NodeMap) → IsTree n → n [] ≡ Some (an_array len) → i ≤ len → IsTree v → IsTree (with_place i v n)
IsTree-with_place n i len v tree e h new = IsTree-level (with_place i v n) root child full
  where
    label : with_place i v n [] ≡ Some (an_array (suc len))
    label = with_place-root i len v n e

    root : IsSome (with_place i v n [])
    root = subst (λ (o : Option Label). IsSome o) (sym label) refl

    may : (j : ℕ) → j < suc len → MayHave (with_place i v n []) (place j)
    may j b = subst (λ (o : Option Label). MayHave o (place j)) (sym label) b

    old : (t : Step) (u : Path) → IsSome (n (t ∷ u)) → MayHave (Some (an_array len)) t × IsTree (sub n (t ∷ []))
    old t u s =
        let r = IsTree-child n tree t u s in
        (subst (λ (o : Option Label). MayHave o t) e r.0, r.1)

    child : (t : Step) (u : Path) → IsSome (with_place i v n (t ∷ u)) → MayHave (with_place i v n []) t × IsTree (sub (with_place i v n) (t ∷ []))
    child (key k) u s = absurd ((old (key k) u s).0)
    child (place j) u s = ⊎_elim
        (λ (b : j < i).
        let same = with_place-below i j v n b in
        let r = old (place j) u (subst (λ (m : NodeMap). IsSome (m u)) same s) in
        (may j (omega arith), subst IsTree (sym same) r.1))
        (λ (r : (j ≡ i) ⊎ ((k : ℕ) × (j ≡ suc k) × (i ≤ k))). ⊎_elim
        (λ (e : j ≡ i). (may j (omega arith), subst (λ (k : ℕ). IsTree (sub (with_place i v n) (place k ∷ []))) (sym e) (subst IsTree (sym (with_place-same i v n)) new)))
        (λ (q : (k : ℕ) × (j ≡ suc k) × (i ≤ k)).
        let same : sub (with_place i v n) (place j ∷ []) ≡ sub n (place q.0 ∷ []) = ap (λ (k : ℕ). sub (with_place i v n) (place k ∷ [])) q.1 ∙ with_place-above i q.0 v n q.2 in
        let r = old (place q.0) u (subst (λ (m : NodeMap). IsSome (m u)) same s) in
        let below : q.0 < len = r.0 in
        (may j (omega (arith, q.1, below)), subst IsTree (sym same) r.1))
        r)
        (cases_place i j)

    full : (m j : ℕ) → with_place i v n [] ≡ Some (an_array m) → j < m → IsSome (with_place i v n (place j ∷ []))
    full m j f b =
        let both : Some (an_array m) ≡ Some (an_array (suc len)) = sym f ∙ label in
        let long : m ≡ suc len = cc in
        ⊎_elim
        (λ (c : j < i). subst (λ (k : NodeMap). IsSome (k [])) (sym (with_place-below i j v n c)) (tree.full [] len j e (omega arith)))
        (λ (r : (j ≡ i) ⊎ ((k : ℕ) × (j ≡ suc k) × (i ≤ k))). ⊎_elim
        (λ (c : j ≡ i). subst (λ (k : ℕ). IsSome (with_place i v n (place k ∷ []))) (sym c) (subst (λ (k : NodeMap). IsSome (k [])) (sym (with_place-same i v n)) new.root))
        (λ (q : (k : ℕ) × (j ≡ suc k) × (i ≤ k)).
        let below : q.0 < len = omega (arith, q.1) in
        let same : sub (with_place i v n) (place j ∷ []) ≡ sub n (place q.0 ∷ []) = ap (λ (k : ℕ). sub (with_place i v n) (place k ∷ [])) q.1 ∙ with_place-above i q.0 v n q.2 in
        subst (λ (k : NodeMap). IsSome (k [])) (sym same) (tree.full [] len q.0 e below))
        r)
        (cases_place i j)

-- finite maps

more_some : (o : Option Label) → IsSome (one_more o) → IsSome o
more_some None h = h
more_some (Some l) h = refl

-- a path of the array, with its index larger by one
higher : Path → Path
higher [] = []
higher (key k ∷ p) = key k ∷ p
higher (place j ∷ p) = place (suc j) ∷ p

pub IsListed-with_place : (i : ℕ) (v n : NodeMap) → IsListed n → IsListed v → IsListed (with_place i v n)
unfolding higher
IsListed-with_place i v n h new = (h.0 ++ (map higher h.0 ++ map (λ (p : Path). place i ∷ p) new.0), listed)
  where
    old : (w : Path) → IsSome (n w) → Contains (h.0 ++ (map higher h.0 ++ map (λ (p : Path). place i ∷ p) new.0)) w
    old w some = Contains-append_left h.0 (map higher h.0 ++ map (λ (p : Path). place i ∷ p) new.0) w (h.1 w some)

    moved : (k : ℕ) (w : Path) → IsSome (n (place k ∷ w)) → Contains (h.0 ++ (map higher h.0 ++ map (λ (p : Path). place i ∷ p) new.0)) (place (suc k) ∷ w)
    moved k w some = Contains-append_right h.0 (map higher h.0 ++ map (λ (p : Path). place i ∷ p) new.0) (place (suc k) ∷ w) (Contains-append_left (map higher h.0) (map (λ (p : Path). place i ∷ p) new.0) (place (suc k) ∷ w) (Contains-map higher h.0 (place k ∷ w) (h.1 (place k ∷ w) some)))

    added : (w : Path) → IsSome (v w) → Contains (h.0 ++ (map higher h.0 ++ map (λ (p : Path). place i ∷ p) new.0)) (place i ∷ w)
    added w some = Contains-append_right h.0 (map higher h.0 ++ map (λ (p : Path). place i ∷ p) new.0) (place i ∷ w) (Contains-append_right (map higher h.0) (map (λ (p : Path). place i ∷ p) new.0) (place i ∷ w) (Contains-map (λ (p : Path). place i ∷ p) new.0 w (new.1 w some)))

    listed : (w : Path) → IsSome (with_place i v n w) → Contains (h.0 ++ (map higher h.0 ++ map (λ (p : Path). place i ∷ p) new.0)) w
    listed [] some = old [] (more_some (n []) some)
    listed (key k ∷ w) some = old (key k ∷ w) some
    listed (place j ∷ w) some = ⊎_elim
        (λ (b : j < i). old (place j ∷ w) (subst (λ (m : NodeMap). IsSome (m w)) (with_place-below i j v n b) some))
        (λ (r : (j ≡ i) ⊎ ((k : ℕ) × (j ≡ suc k) × (i ≤ k))). ⊎_elim
        (λ (e : j ≡ i). subst (λ (k : ℕ). Contains (h.0 ++ (map higher h.0 ++ map (λ (p : Path). place i ∷ p) new.0)) (place k ∷ w)) (sym e) (added w (subst (λ (m : NodeMap). IsSome (m w)) (with_place-same i v n) (subst (λ (k : ℕ). IsSome (with_place i v n (place k ∷ w))) e some))))
        (λ (q : (k : ℕ) × (j ≡ suc k) × (i ≤ k)). subst (λ (k : ℕ). Contains (h.0 ++ (map higher h.0 ++ map (λ (p : Path). place i ∷ p) new.0)) (place k ∷ w)) (sym q.1) (moved q.0 w (subst (λ (m : NodeMap). IsSome (m w)) (with_place-above i q.0 v n q.2) (subst (λ (k : ℕ). IsSome (with_place i v n (place k ∷ w))) q.1 some))))
        r)
        (cases_place i j)
