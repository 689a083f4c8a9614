-- How deep a map nests after a value is put into it or taken out.
use Rattle.std.proofs.Common.{◌≡◌, ℕ, suc, ◌+◌, ◌-◌, ◌<◌, ◌≤◌, Bool, true, false, cond, List, [], ◌∷◌, ◌++◌, length, Option, Some, None, ◌⊎◌, inl, inr, refl, sym, ap, ◌∙◌, subst, arith}
use Rattle.std.proofs.lemmas.List.{length-append}
use Rattle.jsonptr_grammar.specs.Text.{Text}
use Rattle.jsonptr_tree.specs.Node.{Step, key, place, Path, Label, an_object, an_array, a_leaf, NodeMap, sub, NamesStep, Names}
use Rattle.jsonptr_tree.specs.Following.{Finds}
use Rattle.jsonptr_tree.specs.Put.{GoesThrough, same_step, rest_after, label_or, put}
use Rattle.jsonptr_tree.specs.Expansion.{is_append_index, with_one, expanded}
use Rattle.jsonptr_tree.specs.Landing.{LandsFrom}
use Rattle.jsonptr_tree.specs.Assigning.{long_enough, with_room, Assigns}
use Rattle.jsonptr_tree.specs.Removing.{one_less, place_before, without_key, without_place, without_step, Deletes}
use Rattle.jsonptr_tree.proofs.PutLemmas.{cases_front, rest_after-append}
use Rattle.jsonptr_tree.proofs.NodeLemmas.{Names-length}
use Rattle.jsonptr_value.specs.Nesting.{IsContainer, NestsWithin}

pub NestsWithin-more : (k j : ℕ) (n : NodeMap) → k ≤ j → NestsWithin k n → NestsWithin j n
NestsWithin-more k j n le h = λ w c. let low : length w < k = h w c in omega (arith, le, low)

-- a part of a map

pub NestsWithin-sub : (k : ℕ) (n : NodeMap) (p : Path) → NestsWithin k n → NestsWithin (k - length p) (sub n p)
NestsWithin-sub k n p h = λ w c.
    let low : length (p ++ w) < k = h (p ++ w) c in
    let len : length (p ++ w) ≡ length p + length w = length-append p w in
    omega (arith, low, len)

-- naming leads through containers

names_container : (l : Option Label) (x : Text) (s : Step) → NamesStep l x s → IsContainer l
names_container None x s h = h
names_container (Some an_object) x s h = tt
names_container (Some (an_array len)) x s h = tt
names_container (Some (a_leaf v)) x s h = h

pub Names-within : (k : ℕ) (n : NodeMap) (xs : List Text) (w : Path) → NestsWithin k n → Names n xs w → length xs ≤ k
Names-within k n [] w h named = omega arith
Names-within k n (x ∷ xs) [] h named = absurd named
Names-within k n (x ∷ xs) (s ∷ w) h named =
    let root : 0 < k = h [] (names_container (n []) x s named.0) in
    let rest : length xs ≤ k - length (s ∷ []) = Names-within (k - length (s ∷ [])) (sub n (s ∷ [])) xs w (NestsWithin-sub k n (s ∷ []) h) named.1 in
    omega (arith, root, rest)

-- what tokens evaluate to nests that much less
pub Finds-within : (k : ℕ) (n : NodeMap) (xs : List Text) (m : NodeMap) → NestsWithin k n → Finds n xs m → NestsWithin (k - length xs) m
Finds-within k n xs m h found =
    let len : length xs ≡ length found.path = Names-length n xs found.path found.named in
    let below : NestsWithin (k - length found.path) m = subst (NestsWithin (k - length found.path)) (sym found.below) (NestsWithin-sub k n found.path h) in
    NestsWithin-more (k - length found.path) (k - length xs) m (omega (arith, len)) below

-- a map that is put into another one

pub NestsWithin-put : (k j : ℕ) (n : NodeMap) (p : Path) (v : NodeMap) → NestsWithin k n → NestsWithin j v → length p + j ≤ k → NestsWithin k (put n p v)
NestsWithin-put k j n p v h below le = λ w c. at w c (cases_front p w)
  where
    at : (w : Path) → IsContainer (put n p v w) → GoesThrough w p ⊎ (rest_after p w ≡ None) → length w < k
    at w c (inl (q, e)) =
        let rest : rest_after p w ≡ Some q = ap (rest_after p) e ∙ rest_after-append p q in
        let low : length q < j = below q (subst (λ (o : Option Path). IsContainer (label_or o v (n w))) rest c) in
        let len : length w ≡ length p + length q = ap length e ∙ length-append p q in
        omega (arith, low, len, le)
    at w c (inr none) = h w (subst (λ (o : Option Path). IsContainer (label_or o v (n w))) none c)

-- expansion

container_of_long_enough : (r : Option Path) (l : Option Label) → IsContainer (long_enough r l) → IsContainer l
container_of_long_enough None l c = c
container_of_long_enough (Some []) l c = c
container_of_long_enough (Some (key k ∷ p)) l c = c
container_of_long_enough (Some (place i ∷ p)) None c = c
container_of_long_enough (Some (place i ∷ p)) (Some an_object) c = c
container_of_long_enough (Some (place i ∷ p)) (Some (an_array len)) c = tt
container_of_long_enough (Some (place i ∷ p)) (Some (a_leaf v)) c = c

NestsWithin-with_room : (k : ℕ) (n : NodeMap) (p : Path) → NestsWithin k n → NestsWithin k (with_room n p)
NestsWithin-with_room k n p h = λ w c. h w (container_of_long_enough (rest_after w p) (n w) c)

container_then : (b : Bool) (o : Option Label) → IsContainer (cond b o None) → IsContainer o
container_then true o c = c
container_then false o c = absurd c

NestsWithin-with_one : (k : ℕ) (l : Label) (s : Step) (m : NodeMap) → NestsWithin k m → NestsWithin (suc k) (with_one l s m)
NestsWithin-with_one k l s m h [] c = omega arith
NestsWithin-with_one k l s m h (t ∷ p) c =
    let low : length p < k = h p (container_then (same_step s t) (m p) c) in
    omega (arith, low)

either_within : (k : ℕ) (b : Bool) (n m : NodeMap) → NestsWithin k n → NestsWithin k m → NestsWithin k (cond b n m)
either_within k true n m h g = h
either_within k false n m h g = g

NestsWithin-expanded : (j : ℕ) (left : List Text) (v : NodeMap) → NestsWithin j v → NestsWithin (length left + j) (expanded left v)
NestsWithin-expanded j [] v h = NestsWithin-more j (length {A = Text} [] + j) v (omega arith) h
NestsWithin-expanded j (x ∷ xs) v h =
    let rest : NestsWithin (length xs + j) (expanded xs v) = NestsWithin-expanded j xs v h in
    let array : NestsWithin (suc (length xs + j)) (with_one (an_array 1) (place 0) (expanded xs v)) = NestsWithin-with_one (length xs + j) (an_array 1) (place 0) (expanded xs v) rest in
    let object : NestsWithin (suc (length xs + j)) (with_one an_object (key x) (expanded xs v)) = NestsWithin-with_one (length xs + j) an_object (key x) (expanded xs v) rest in
    NestsWithin-more (suc (length xs + j)) (length (x ∷ xs) + j) (expanded (x ∷ xs) v) (omega arith) (either_within (suc (length xs + j)) (is_append_index 0 x) (with_one (an_array 1) (place 0) (expanded xs v)) (with_one an_object (key x) (expanded xs v)) array object)

-- the steps of the path and the tokens that are left are as many as the tokens
lands_length : (w : Path) (l : Option Label) (rest : List Text) (p : Path) (left : List Text) → LandsFrom w l rest p left → length p + length left ≡ length w + length rest
lands_length w l [] p left h =
    let path : length p ≡ length w = ap length h.0 in
    let none : length left ≡ 0 = ap length h.1 in
    omega (arith, path, none)
lands_length w None (x ∷ rest) p left h = absurd h
lands_length w (Some an_object) (x ∷ rest) p left h =
    let path : length p ≡ length w + length (key x ∷ []) = ap length h.0 ∙ length-append w (key x ∷ []) in
    let same : length left ≡ length rest = ap length h.1 in
    omega (arith, path, same)
lands_length w (Some (an_array len)) (x ∷ rest) p left h =
    let path : length p ≡ length w + length (place len ∷ []) = ap length h.1 ∙ length-append w (place len ∷ []) in
    let same : length left ≡ length rest = ap length h.2 in
    omega (arith, path, same)
lands_length w (Some (a_leaf v)) (x ∷ rest) p left h =
    let path : length p ≡ length w = ap length h.0 in
    let same : length left ≡ length (x ∷ rest) = ap length h.1 in
    omega (arith, path, same)

pub Assigns-within : (k j : ℕ) (n : NodeMap) (tokens : List Text) (v m : NodeMap) (old : Option NodeMap) → Assigns n tokens v m old → NestsWithin k n → NestsWithin j v → length tokens + j ≤ k → NestsWithin k m
Assigns-within k j n tokens v m old made h below le =
    let lands = made.lands in
    let front : length lands.front ≡ length lands.path = Names-length n lands.front lands.path lands.stops.named in
    let all : length tokens ≡ length lands.front + length lands.rest = ap length lands.stops.split ∙ length-append lands.front lands.rest in
    let len : length made.path + length made.left ≡ length lands.path + length lands.rest = lands_length lands.path (n lands.path) lands.rest made.path made.left lands.lands in
    subst (NestsWithin k) (sym made.made)
    (NestsWithin-put k (length made.left + j) (with_room n made.path) made.path (expanded made.left v) (NestsWithin-with_room k n made.path h) (NestsWithin-expanded j made.left v below) (omega (arith, front, all, len, le)))

-- deletion

container_else : (b : Bool) (o : Option Label) → IsContainer (cond b None o) → IsContainer o
container_else true o c = absurd c
container_else false o c = c

container_of_one_less : (l : Option Label) → IsContainer (one_less l) → IsContainer l
container_of_one_less None c = c
container_of_one_less (Some an_object) c = c
container_of_one_less (Some (an_array len)) c = tt
container_of_one_less (Some (a_leaf v)) c = c

without_key-within : (k : ℕ) (n : NodeMap) (x : Text) → NestsWithin k n → NestsWithin k (without_key x n)
without_key-within k n x h [] c = h [] c
without_key-within k n x h (s ∷ p) c = h (s ∷ p) (container_else (same_step (key x) s) (n (s ∷ p)) c)

without_place-within : (k : ℕ) (n : NodeMap) (i : ℕ) → NestsWithin k n → NestsWithin k (without_place i n)
without_place-within k n i h [] c = h [] (container_of_one_less (n []) c)
without_place-within k n i h (key x ∷ p) c = h (key x ∷ p) c
without_place-within k n i h (place j ∷ p) c =
    let low : length (place (place_before i j) ∷ p) < k = h (place (place_before i j) ∷ p) c in
    omega (arith, low)

without_step-within : (k : ℕ) (n : NodeMap) (s : Step) → NestsWithin k n → NestsWithin k (without_step s n)
without_step-within k n (key x) h = without_key-within k n x h
without_step-within k n (place i) h = without_place-within k n i h

-- a path is empty, or it has a last step
cases_last : (w : Path) → (w ≡ []) ⊎ ((u : Path) × (s : Step) × (w ≡ u ++ s ∷ []))
cases_last [] = inl refl
cases_last (s ∷ w) = inr (go (cases_last w))
  where
    go : (w ≡ []) ⊎ ((u : Path) × (t : Step) × (w ≡ u ++ t ∷ [])) → (u : Path) × (t : Step) × (s ∷ w ≡ u ++ t ∷ [])
    go (inl e) = ([], s, ap (λ (p : Path). s ∷ p) e)
    go (inr (u, t, e)) = (s ∷ u, t, ap (λ (p : Path). s ∷ p) e)

no_tokens : (n : NodeMap) (xs : List Text) → Names n xs [] → xs ≡ []
no_tokens n [] named = refl
no_tokens n (x ∷ xs) named = absurd named

-- deleting what tokens name
pub Deletes-within : (k : ℕ) (n : NodeMap) (tokens : List Text) (blank m : NodeMap) (w : Path) → Deletes n tokens blank m → Names n tokens w → NestsWithin k n → NestsWithin k blank → NestsWithin k m
Deletes-within k n tokens blank m w deleted named h empty = go (cases_last w)
  where
    go : (w ≡ []) ⊎ ((u : Path) × (s : Step) × (w ≡ u ++ s ∷ [])) → NestsWithin k m
    go (inl e) =
        let none : tokens ≡ [] = no_tokens n tokens (subst (Names n tokens) e named) in
        subst (NestsWithin k) (sym (deleted.whole none)) empty
    go (inr (u, s, e)) =
        let made : m ≡ put n u (without_step s (sub n u)) = deleted.child u s (subst (Names n tokens) e named) in
        let within : length tokens ≤ k = Names-within k n tokens w h named in
        let len : length tokens ≡ length w = Names-length n tokens w named in
        let parts : length w ≡ length u + length (s ∷ []) = ap length e ∙ length-append u (s ∷ []) in
        subst (NestsWithin k) (sym made)
        (NestsWithin-put k (k - length u) n u (without_step s (sub n u)) h (without_step-within (k - length u) (sub n u) s (NestsWithin-sub k n u h)) (omega (arith, within, len, parts)))
