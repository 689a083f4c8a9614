-- A document that is built node by node, in document order.
use Rattle.std.proofs.Common.{◌≡◌, ◌≢◌, inl, inr, ℕ, ◌<◌, ◌≤◌, ◌⊎◌, List, [], ◌∷◌, ◌++◌, Option, Some, None, IsSome, is_some, option_map, refl, sym, ap, ap₂, subst, ◌∙◌, arith, append-nil, append_assoc, true≢false}
use mathlib.Core.Path.{fun_ext}
use Rattle.std.proofs.lemmas.Bool.{cases_lt}
use Rattle.jsonptr.specs.Text.{Text, dec}
use Rattle.jsonptr.specs.Node.{Step, key, place, Path, Label, an_object, an_array, a_leaf, NodeMap, sub, NamesStep, Names, MayHave, IsTree}
use Rattle.jsonptr.specs.Put.{GoesThrough, rest_after}
use Rattle.jsonptr.specs.Expansion.{expanded}
use Rattle.jsonptr.specs.Landing.{Lands}
use Rattle.jsonptr.specs.Assigning.{Assigns, with_room, long_enough}
use Rattle.jsonptr_tree.proofs.NodeLemmas.{Names-pop, IsTree-above, IsTree-sub}
use Rattle.jsonptr_tree.proofs.PutLemmas.{cases_front, put_behind, put_none, put_at}
use Rattle.jsonptr_tree.proofs.FollowingLemmas.{stops_in, lacks_at_object, lacks_past_array, cases_some}
use Rattle.jsonptr_tree.proofs.LandingLemmas.{Lands_named, Lands_object, Lands_end, Lands_one, means_end-dec}
use Rattle.jsonptr_tree.proofs.AssigningLemmas.{made, room-some, some-room, Assigns-tree}
use Rattle.jsonptr_text_paths.specs.Walking.{Before}
use Rattle.jsonptr_text_paths.proofs.OrderLemmas.{not_after}
use Rattle.jsonptr_text_paths.specs.PrivateRebuilding.{kind, IsPart, IsEmptied, IsNext}

-- kinds

not_none : {X : Type 0} (o : Option X) → IsSome o → o ≡ None → ⊥
not_none o h e = true≢false (sym h ∙ ap is_some e)

some_kind : (o p : Option Label) → option_map kind o ≡ option_map kind p → IsSome o → IsSome p
some_kind None p e h = absurd (true≢false (sym h))
some_kind (Some l) None e h = absurd (let none : ⊥ = cc in none)
some_kind (Some l) (Some k) e h = refl

kind_kind : (o : Option Label) → option_map kind (option_map kind o) ≡ option_map kind o
kind_kind None = refl
kind_kind (Some an_object) = refl
kind_kind (Some (an_array len)) = refl
kind_kind (Some (a_leaf v)) = refl

kind_room : (r : Option Path) (o : Option Label) → option_map kind (long_enough r o) ≡ option_map kind o
kind_room None o = refl
kind_room (Some []) o = refl
kind_room (Some (key k ∷ p)) o = refl
kind_room (Some (place i ∷ p)) None = refl
kind_room (Some (place i ∷ p)) (Some an_object) = refl
kind_room (Some (place i ∷ p)) (Some (an_array len)) = refl
kind_room (Some (place i ∷ p)) (Some (a_leaf v)) = refl

object_kind : (o p : Option Label) (x : Text) (k : Text) → option_map kind o ≡ option_map kind p → NamesStep p x (key k) → o ≡ Some an_object
object_kind None None x k e h = absurd h
object_kind None (Some l) x k e h = absurd (let none : ⊥ = cc in none)
object_kind (Some an_object) p x k e h = refl
object_kind (Some (an_array a)) (Some an_object) x k e h = absurd (let none : ⊥ = cc in none)
object_kind (Some (an_array a)) (Some (an_array b)) x k e h = absurd h
object_kind (Some (an_array a)) (Some (a_leaf v)) x k e h = absurd h
object_kind (Some (an_array a)) None x k e h = absurd h
object_kind (Some (a_leaf v)) (Some an_object) x k e h = absurd (let none : ⊥ = cc in none)
object_kind (Some (a_leaf v)) (Some (an_array b)) x k e h = absurd h
object_kind (Some (a_leaf v)) (Some (a_leaf u)) x k e h = absurd h
object_kind (Some (a_leaf v)) None x k e h = absurd h

array_kind : (o p : Option Label) (x : Text) (i : ℕ) → option_map kind o ≡ option_map kind p → NamesStep p x (place i) → (len : ℕ) × (o ≡ Some (an_array len))
array_kind None None x i e h = absurd h
array_kind None (Some l) x i e h = absurd (let none : ⊥ = cc in none)
array_kind (Some (an_array a)) p x i e h = (a, refl)
array_kind (Some an_object) (Some an_object) x i e h = absurd h
array_kind (Some an_object) (Some (an_array b)) x i e h = absurd (let none : ⊥ = cc in none)
array_kind (Some an_object) (Some (a_leaf v)) x i e h = absurd h
array_kind (Some an_object) None x i e h = absurd h
array_kind (Some (a_leaf v)) (Some an_object) x i e h = absurd h
array_kind (Some (a_leaf v)) (Some (an_array b)) x i e h = absurd (let none : ⊥ = cc in none)
array_kind (Some (a_leaf v)) (Some (a_leaf u)) x i e h = absurd h
array_kind (Some (a_leaf v)) None x i e h = absurd h

-- a token selects the same child at a node of the same kind that has it
step_kept : (o p : Option Label) (x : Text) (s : Step) → option_map kind o ≡ option_map kind p → NamesStep p x s → MayHave o s → NamesStep o x s
step_kept o None x s e h may = absurd h
step_kept None (Some l) x s e h may = absurd may
step_kept (Some an_object) (Some an_object) x s e h may = h
step_kept (Some an_object) (Some (an_array b)) x s e h may = absurd (let none : ⊥ = cc in none)
step_kept (Some an_object) (Some (a_leaf v)) x s e h may = absurd h
step_kept (Some (an_array a)) (Some an_object) x s e h may = absurd (let none : ⊥ = cc in none)
step_kept (Some (an_array a)) (Some (an_array b)) x (key k) e h may = absurd h
step_kept (Some (an_array a)) (Some (an_array b)) x (place i) e h may = (may, h.1)
step_kept (Some (an_array a)) (Some (a_leaf v)) x s e h may = absurd h
step_kept (Some (a_leaf v)) p x s e h may = absurd may

-- tokens name a path of n in a document that has the nodes on the way to it
pub names_kept : (n m : NodeMap) (xs : List Text) (q : Path) → IsTree m → ((p u : Path) → q ≡ p ++ u → IsSome (m p) × (option_map kind (m p) ≡ option_map kind (n p))) → Names n xs q → Names m xs q
names_kept n m [] [] tree same h = (same [] [] refl).0
names_kept n m [] (s ∷ q) tree same h = absurd h
names_kept n m (x ∷ xs) [] tree same h = absurd h
names_kept n m (x ∷ xs) (s ∷ q) tree same h = (
  step_kept (m []) (n []) x s (same [] (s ∷ q) refl).1 h.0 (tree.parent [] s child),
  names_kept (sub n (s ∷ [])) (sub m (s ∷ [])) xs q (IsTree-sub m (s ∷ []) tree child) (λ p u e. same (s ∷ p) u (ap (λ (v : Path). s ∷ v) e)) h.1,
)
  where
    child : IsSome (m (s ∷ []))
    child = (same (s ∷ []) q refl).0

-- the path above a node is before it
pub above_before : (q : Path) (s : Step) (u : Path) → Before q (q ++ s ∷ u)
above_before [] s u = tt
above_before (t ∷ q) s u = inr (refl, above_before q s u)

-- an element is before those after it
pub element_before : (q : Path) (i j : ℕ) → i < j → Before (q ++ place i ∷ []) (q ++ place j ∷ [])
element_before [] i j h = inl h
element_before (t ∷ q) i j h = inr (refl, element_before q i j h)

nonempty_before : (q u : Path) (s : Step) → Before q (q ++ (u ++ s ∷ []))
nonempty_before q [] s = above_before q s []
nonempty_before q (t ∷ u) s = above_before q t (u ++ s ∷ [])

-- tokens

key_token : (o : Option Label) (x k : Text) → NamesStep o x (key k) → k ≡ x
key_token None x k h = absurd h
key_token (Some an_object) x k h = h
key_token (Some (an_array b)) x k h = absurd h
key_token (Some (a_leaf v)) x k h = absurd h

place_token : (o : Option Label) (x : Text) (i : ℕ) → NamesStep o x (place i) → (len : ℕ) × (o ≡ Some (an_array len)) × (i < len) × (x ≡ dec i)
place_token None x i h = absurd h
place_token (Some an_object) x i h = absurd h
place_token (Some (an_array b)) x i h = (b, refl, h.0, h.1)
place_token (Some (a_leaf v)) x i h = absurd h

last_of : (xs : List Text) → (xs ≡ []) ⊎ ((front : List Text) × (x : Text) × (xs ≡ front ++ x ∷ []))
last_of [] = inl refl
last_of (x ∷ xs) = inr (elim (last_of xs) [
  | inl e ↦ ([], x, ap (λ (l : List Text). x ∷ l) e)
  | inr r ↦ (x ∷ r.0, r.1, ap (λ (l : List Text). x ∷ l) r.2)
])

no_tokens : (n : NodeMap) (p : Path) → Names n [] p → p ≡ []
no_tokens n [] h = refl
no_tokens n (s ∷ p) h = absurd h

-- the next node is not there yet
not_yet : (n m : NodeMap) (Seen : Path → Type 0) (p : Path) → IsPart n Seen m → IsNext n Seen p → IsSome (m p) → ⊥
not_yet n m Seen p part next h = let wrong : Before p p = next.after p (part.seen p h) in not_after p p wrong wrong

absent : (n m : NodeMap) (Seen : Path → Type 0) (p : Path) → IsPart n Seen m → IsNext n Seen p → m p ≡ None
absent n m Seen p part next = elim (cases_some (m p)) [
  | inl h ↦ absurd (not_yet n m Seen p part next h)
  | inr e ↦ e
]

-- the nodes above the next one are there
above_there : (n m : NodeMap) (Seen : Path → Type 0) (q : Path) (s : Step) → IsTree n → IsPart n Seen m → IsNext n Seen (q ++ s ∷ []) → (p u : Path) → q ≡ p ++ u → IsSome (m p) × (option_map kind (m p) ≡ option_map kind (n p))
above_there n m Seen q s tree part next p u e =
    let long : q ++ s ∷ [] ≡ p ++ (u ++ s ∷ []) = ap (λ (w : Path). w ++ s ∷ []) e ∙ append_assoc p u (s ∷ []) in
    let some : IsSome (n p) = IsTree-above n tree p (u ++ s ∷ []) (subst (λ (w : Path). IsSome (n w)) long next.here) in
    let before : Before p (q ++ s ∷ []) = subst (Before p) (sym long) (nonempty_before p u s) in
    let there : IsSome (m p) = part.there p (next.all p some before) in
    (there, part.kinds p there)

-- an array has the elements before the next one
array_so_far : (n m : NodeMap) (Seen : Path → Type 0) (q : Path) (i size len : ℕ) → IsTree n → IsPart n Seen m → IsNext n Seen (q ++ place i ∷ []) → n q ≡ Some (an_array size) → i < size → m q ≡ Some (an_array len) → len ≡ i
array_so_far n m Seen q i size len tree part next whole inside is = elim (cases_lt i len) [
  | inl less ↦ absurd (not_yet n m Seen (q ++ place i ∷ []) part next (part.tree.full q len i is less))
  | inr most ↦ elim (cases_lt len i) [
    | inl more ↦ absurd (missing more)
    | inr least ↦ omega arith
  ]
]
  where
    missing : len < i → ⊥
    missing more =
        let some : IsSome (n (q ++ place len ∷ [])) = tree.full q size len whole (omega arith) in
        let there : IsSome (m (q ++ place len ∷ [])) = part.there _ (next.all _ some (element_before q len i more)) in
        let wrong : len < len = subst (λ (o : Option Label). MayHave o (place len)) is (part.tree.parent q (place len) there) in
        omega arith

-- the next node lands where it is in n
lands_at : (n m : NodeMap) (Seen : Path → Type 0) (front : List Text) (x : Text) (q : Path) (s : Step) → IsTree n → IsPart n Seen m → IsNext n Seen (q ++ s ∷ []) → Names n front q → NamesStep (n q) x s → Lands m (front ++ x ∷ []) (q ++ s ∷ []) []
lands_at n m Seen front x q (key k) tree part next names step =
    let above = above_there n m Seen q (key k) tree part next in
    let named : Names m front q = names_kept n m front q part.tree above names in
    let label : m q ≡ Some an_object = object_kind (m q) (n q) x k (above q [] (sym (append-nil q))).1 step in
    let same : k ≡ x = key_token (n q) x k step in
    let none : m (q ++ key x ∷ []) ≡ None = subst (λ (t : Text). m (q ++ key t ∷ []) ≡ None) same (absent n m Seen (q ++ key k ∷ []) part next) in
    let stops = stops_in m (front ++ x ∷ []) front x [] q refl named (lacks_at_object m q x label none) in
    subst (λ (t : Text). Lands m (front ++ x ∷ []) (q ++ key t ∷ []) []) (sym same) (Lands_object m (front ++ x ∷ []) front x [] q stops label)
lands_at n m Seen front x q (place i) tree part next names step =
    let above = above_there n m Seen q (place i) tree part next in
    let named : Names m front q = names_kept n m front q part.tree above names in
    let kinds = (above q [] (sym (append-nil q))).1 in
    let array = array_kind (m q) (n q) x i kinds step in
    let whole = place_token (n q) x i step in
    let same : array.0 ≡ i = array_so_far n m Seen q i whole.0 array.0 tree part next whole.1 whole.2 array.1 in
    let digits : x ≡ dec array.0 = whole.3 ∙ ap dec (sym same) in
    let stops = stops_in m (front ++ x ∷ []) front x [] q refl named (lacks_past_array m q x array.0 array.0 array.1 digits (omega arith)) in
    subst (λ (j : ℕ). Lands m (front ++ x ∷ []) (q ++ place j ∷ []) []) same (Lands_end m (front ++ x ∷ []) front x [] q array.0 stops array.1 (means_end-dec array.0 x digits))

pub part_lands : (n m : NodeMap) (Seen : Path → Type 0) (ts : List Text) (p : Path) → IsTree n → IsPart n Seen m → IsNext n Seen p → p ≢ [] → Names n ts p → Lands m ts p []
part_lands n m Seen ts p tree part next below names = elim (last_of ts) [
  | inl e ↦ absurd (below (no_tokens n p (subst (λ (l : List Text). Names n l p) e names)))
  | inr r ↦
      let pop = Names-pop n r.0 r.1 p (subst (λ (l : List Text). Names n l p) r.2 names) in
      let next_at : IsNext n Seen (pop.0 ++ pop.1 ∷ []) = subst (IsNext n Seen) pop.2 next in
      subst (λ (l : List Text). Lands m l p []) (sym r.2) (subst (λ (w : Path). Lands m (r.0 ++ r.1 ∷ []) w []) (sym pop.2) (lands_at n m Seen r.0 r.1 pop.0 pop.1 tree part next_at pop.3 pop.4))
]

-- what is known with one node more

emptied_root : (v : NodeMap) (l : Option Label) (r : Path) → IsEmptied v l → IsSome (v r) → r ≡ []
emptied_root v l [] e h = refl
emptied_root v l (s ∷ r) e h = absurd (not_none (v (s ∷ r)) h (e.alone s r))

root_some : (o : Option Label) → IsSome o → IsSome (option_map kind o)
root_some None h = h
root_some (Some l) h = refl

pub part_more : (n m v : NodeMap) (Seen : Path → Type 0) (p : Path) → IsPart n Seen m → IsNext n Seen p → IsTree (made m p v) → IsEmptied v (n p) → IsPart n (λ w. Seen w ⊎ (w ≡ p)) (made m p v)
part_more n m v Seen p part next tree e = record {
  tree = tree;
  seen = λ w h. seen_at w h (cases_front p w);
  there = λ w h. elim h [
    | inl old ↦ kept w (part.there w old)
    | inr same ↦ subst (λ (u : Path). IsSome (made m p v u)) (sym same) here
  ];
  kinds = λ w h. kinds_at w h (cases_front p w);
}
  where
    at : made m p v p ≡ option_map kind (n p)
    at = put_at (with_room m p) p v ∙ e.root

    here : IsSome (made m p v p)
    here = subst IsSome (sym at) (root_some (n p) next.here)

    prefix : (w : Path) → IsSome (made m p v w) → GoesThrough w p → w ≡ p
    prefix w h c =
        let below : IsSome (v c.0) = subst IsSome (put_behind (with_room m p) p v c.0) (subst (λ (u : Path). IsSome (made m p v u)) c.1 h) in
        c.1 ∙ ap (λ (r : Path). p ++ r) (emptied_root v (n p) c.0 e below) ∙ append-nil p

    seen_at : (w : Path) → IsSome (made m p v w) → GoesThrough w p ⊎ (rest_after p w ≡ None) → Seen w ⊎ (w ≡ p)
    seen_at w h (inl c) = inr (prefix w h c)
    seen_at w h (inr none) = inl (part.seen w (room-some (m w) (rest_after w p) (subst IsSome (put_none (with_room m p) p v w none) h)))

    apart : (w : Path) → IsSome (m w) → GoesThrough w p → ⊥
    apart w h c = not_yet n m Seen p part next (IsTree-above m part.tree p c.0 (subst (λ (u : Path). IsSome (m u)) c.1 h))

    kept : (w : Path) → IsSome (m w) → IsSome (made m p v w)
    kept w h = elim (cases_front p w) [
      | inl c ↦ absurd (apart w h c)
      | inr none ↦ subst IsSome (sym (put_none (with_room m p) p v w none)) (some-room (m w) (rest_after w p) h)
    ]

    kinds_at : (w : Path) → IsSome (made m p v w) → GoesThrough w p ⊎ (rest_after p w ≡ None) → option_map kind (made m p v w) ≡ option_map kind (n w)
    kinds_at w h (inl c) = subst (λ (u : Path). option_map kind (made m p v u) ≡ option_map kind (n u)) (sym (prefix w h c)) (ap (option_map kind) at ∙ kind_kind (n p))
    kinds_at w h (inr none) =
        let other : made m p v w ≡ long_enough (rest_after w p) (m w) = put_none (with_room m p) p v w none in
        let some : IsSome (m w) = room-some (m w) (rest_after w p) (subst IsSome other h) in
        ap (option_map kind) other ∙ kind_room (rest_after w p) (m w) ∙ part.kinds w some

-- assigning the next node
pub assigned_next : (n m v k : NodeMap) (old : Option NodeMap) (Seen : Path → Type 0) (ts : List Text) (p : Path) → IsPart n Seen m → IsNext n Seen p → Lands m ts p [] → IsTree v → IsEmptied v (n p) → Assigns m ts v k old → IsPart n (λ w. Seen w ⊎ (w ≡ p)) k
assigned_next n m v k old Seen ts p part next lands tree e a =
    let one = Lands_one m ts a.path p a.left [] a.lands lands in
    let is : k ≡ made m p v = a.made ∙ ap₂ (λ (q : Path) (left : List Text). made m q (expanded left v)) one.0 one.1 in
    let whole : IsTree k = Assigns-tree m ts v k old part.tree tree a in
    subst (IsPart n (λ w. Seen w ⊎ (w ≡ p))) (sym is) (part_more n m v Seen p part next (subst IsTree is whole) e)

-- assigning the root
pub assigned_root : (n m v k : NodeMap) (old : Option NodeMap) → IsSome (n []) → IsSome (m []) → IsTree v → IsEmptied v (n []) → Assigns m [] v k old → IsPart n (λ w. w ≡ []) k
assigned_root n m v k old here root tree e a =
    let one = Lands_one m [] a.path [] a.left [] a.lands (Lands_named m [] [] root) in
    let is : k ≡ made m [] v = a.made ∙ ap₂ (λ (q : Path) (left : List Text). made m q (expanded left v)) one.0 one.1 in
    let same : made m [] v ≡ v = fun_ext (λ (w : Path). refl) in
    subst (IsPart n (λ w. w ≡ [])) (sym (is ∙ same)) (record {
      tree = tree;
      seen = λ w h. emptied_root v (n []) w e h;
      there = λ w h. subst (λ (u : Path). IsSome (v u)) (sym h) some;
      kinds = λ w h. subst (λ (u : Path). option_map kind (v u) ≡ option_map kind (n u)) (sym (emptied_root v (n []) w e h)) (ap (option_map kind) e.root ∙ kind_kind (n []));
    })
  where
    some : IsSome (v [])
    some = subst IsSome (sym e.root) (root_some (n []) here)

-- with all nodes

same_label : (o p : Option Label) → option_map kind o ≡ option_map kind p → ((a b : ℕ) → o ≡ Some (an_array a) → p ≡ Some (an_array b) → a ≡ b) → o ≡ p
same_label None None e h = refl
same_label None (Some l) e h = absurd (let none : ⊥ = cc in none)
same_label (Some l) None e h = absurd (let none : ⊥ = cc in none)
same_label (Some an_object) (Some an_object) e h = refl
same_label (Some an_object) (Some (an_array b)) e h = absurd (let none : ⊥ = cc in none)
same_label (Some an_object) (Some (a_leaf u)) e h = absurd (let none : ⊥ = cc in none)
same_label (Some (an_array a)) (Some an_object) e h = absurd (let none : ⊥ = cc in none)
same_label (Some (an_array a)) (Some (an_array b)) e h = ap (λ (i : ℕ). Some (an_array i)) (h a b refl refl)
same_label (Some (an_array a)) (Some (a_leaf u)) e h = absurd (let none : ⊥ = cc in none)
same_label (Some (a_leaf v)) (Some an_object) e h = absurd (let none : ⊥ = cc in none)
same_label (Some (a_leaf v)) (Some (an_array b)) e h = absurd (let none : ⊥ = cc in none)
same_label (Some (a_leaf v)) (Some (a_leaf u)) e h = cc

-- an array is no longer than another one, if the other has all its elements
no_longer : (n m : NodeMap) (w : Path) (a b : ℕ) → IsTree n → IsTree m → ((u : Path) → IsSome (n u) → IsSome (m u)) → n w ≡ Some (an_array a) → m w ≡ Some (an_array b) → a ≤ b
no_longer n m w a b tree other there is at = elim (cases_lt b a) [
  | inl less ↦ absurd (missing less)
  | inr most ↦ most
]
  where
    missing : b < a → ⊥
    missing less =
        let some : IsSome (m (w ++ place b ∷ [])) = there _ (tree.full w a b is less) in
        let wrong : b < b = subst (λ (o : Option Label). MayHave o (place b)) at (other.parent w (place b) some) in
        omega arith

pub whole_part : (n m : NodeMap) (Seen : Path → Type 0) → IsTree n → IsPart n Seen m → ((w : Path) → IsSome (n w) → Seen w) → m ≡ n
whole_part n m Seen tree part all = fun_ext label
  where
    down : (w : Path) → IsSome (n w) → IsSome (m w)
    down w h = part.there w (all w h)

    up : (w : Path) → IsSome (m w) → IsSome (n w)
    up w h = some_kind (m w) (n w) (part.kinds w h) h

    label : (w : Path) → m w ≡ n w
    label w = elim (cases_some (m w)) [
      | inl h ↦ same_label (m w) (n w) (part.kinds w h) (λ a b is at.
          let less : a ≤ b = no_longer m n w a b part.tree tree up is at in
          let more : b ≤ a = no_longer n m w b a tree part.tree down at is in
          omega arith)
      | inr none ↦ elim (cases_some (n w)) [
        | inl h ↦ absurd (not_none (m w) (down w h) none)
        | inr e ↦ none ∙ sym e
      ]
    ]
