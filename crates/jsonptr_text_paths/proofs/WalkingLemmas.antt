-- What a walk over the parts of a document appends, part by part, and that it is a walk over the whole.
use Rattle.std.proofs.Common.{◌≡◌, inl, inr, ℕ, zero, suc, ◌+◌, ◌<◌, ◌≤◌, ◌⊎◌, Bool, true, false, cond, is_eq, List, [], ◌∷◌, ◌++◌, length, get_or, map, Option, Some, None, IsSome, option_map, String, Global, Ordering, Less, Equal, Greater, nat_cmp, string_bytes, string_cmp, refl, sym, ap, subst, ◌∙◌, arith, append_assoc, append-nil, true≢false}
use Rattle.std.specs.List.{Contains, AllByRecursion}
use Rattle.std.specs.List.Sorted.{IsStrictlySortedBy}
use Rattle.std.specs.BTreeMap.{BTreeMap, get_by_text, is_at}
use Rattle.std.specs.Cmp.Lexicographic.{slice_cmp}
use Rattle.std.specs.Map.{keys_of, lookup}
use Rattle.std.specs.Ordering.{ordering_reverse}
use Rattle.std.proofs.lemmas.Bool.{cases_lt}
use Rattle.std.proofs.lemmas.Cmp.{nat_list_cmp_total, tied_itself}
use Rattle.std.proofs.lemmas.List.{map-append}
use Rattle.std.proofs.lemmas.Map.Text.{is_eq-slice_cmp}
use Rattle.std.proofs.lemmas.Slice.Eq.{bytes_eq-Decides}
use Rattle.jsonptr.specs.Content.{content_at, Content, label_of, map_of}
use Rattle.jsonptr.specs.Text.{Text}
use Rattle.jsonptr.specs.Node.{Step, key, place, Path, Label, an_object, an_array, a_leaf, NodeMap, sub, NamesStep, Names, MayHave, IsTree}
use Rattle.jsonptr.proofs.Calling.{map_of-IsTree, Names-here, Names_one_path, IsTree-above, IsTree-named}
use Rattle.jsonptr_text_paths.specs.Walking.{ChildBefore, Before, IsWalk}
use Rattle.jsonptr_text_paths.specs.PrivateWalking.{token_of, tokens_to, Among, Ascends, AddsPointers, AnyPath, NotRoot, InFirst}

-- elements of lists

pub among_left : {X : Type 0} (xs ys : List X) (x : X) → Among xs x → Among (xs ++ ys) x
among_left [] ys x h = absurd h
among_left (z ∷ xs) ys x h = elim h [
  | inl e ↦ inl e
  | inr k ↦ inr (among_left xs ys x k)
]

pub among_right : {X : Type 0} (xs ys : List X) (x : X) → Among ys x → Among (xs ++ ys) x
among_right [] ys x h = h
among_right (z ∷ xs) ys x h = inr (among_right xs ys x h)

pub among_cases : {X : Type 0} (xs ys : List X) (x : X) → Among (xs ++ ys) x → Among xs x ⊎ Among ys x
among_cases [] ys x h = inr h
among_cases (z ∷ xs) ys x h = elim h [
  | inl e ↦ inl (inl e)
  | inr k ↦ elim (among_cases xs ys x k) [
    | inl l ↦ inl (inr l)
    | inr r ↦ inr r
  ]
]

among_map : {X Y : Type 0} (f : X → Y) (xs : List X) (x : X) → Among xs x → Among (map f xs) (f x)
among_map f [] x h = h
among_map f (z ∷ xs) x h = elim h [
  | inl e ↦ inl (ap f e)
  | inr k ↦ inr (among_map f xs x k)
]

map_among : {X Y : Type 0} (f : X → Y) (xs : List X) (y : Y) → Among (map f xs) y → (x : X) × Among xs x × (y ≡ f x)
map_among f [] y h = absurd h
map_among f (z ∷ xs) y h = elim h [
  | inl e ↦ (z, inl refl, e)
  | inr k ↦ let r = map_among f xs y k in (r.0, inr r.1, r.2)
]

pub contains_among : {X : Type 0} (xs : List X) (x : X) → Contains xs x → Among xs x
contains_among xs x h = at xs h.0 h.1 h.2
  where
    at : (ys : List _) (k : ℕ) → k < length ys → get_or ys k x ≡ x → Among ys x
    at [] k inside e = absurd (omega arith)
    at (y ∷ ys) zero inside e = inl (sym e)
    at (y ∷ ys) (suc k) inside e = inr (at ys k (omega arith) e)

pub among_contains : {X : Type 0} (xs : List X) (x : X) → Among xs x → Contains xs x
among_contains [] x h = absurd h
among_contains (y ∷ ys) x h = elim h [
  | inl e ↦ (0, omega arith, sym e)
  | inr k ↦ let r = among_contains ys x k in (suc r.0, omega (arith, r.1), r.2)
]

-- document order

not_before_itself : (w : Path) → Before w w → ⊥
not_before_itself [] h = h
not_before_itself (s ∷ w) h = elim h [
  | inl c ↦ child s c
  | inr r ↦ not_before_itself w r.1
]
  where
    child : (s : Step) → ChildBefore s s → ⊥
    child (key k) c =
        let same : slice_cmp nat_cmp k k ≡ Equal = tied_itself nat_list_cmp_total k in
        let wrong : Less ≡ Equal = sym c ∙ same in
        absurd (cc)
    child (place i) c = omega (arith, c)

ascends_append : (ws vs : List Path) → Ascends ws → Ascends vs → ((w v : Path) → Among ws w → Among vs v → Before w v) → Ascends (ws ++ vs)
ascends_append [] vs a b across = b
ascends_append (w ∷ ws) vs a b across = (
  λ v h. elim (among_cases ws vs v h) [
    | inl l ↦ a.0 v l
    | inr r ↦ across w v (inl refl) r
  ],
  ascends_append ws vs a.1 b (λ u v l r. across u v (inr l) r),
)

ascends_below : (s : Step) (ws : List Path) → Ascends ws → Ascends (map (λ w. s ∷ w) ws)
ascends_below s [] a = tt
ascends_below s (w ∷ ws) a =
    (λ v h. let r = map_among (λ u. s ∷ u) ws v h in subst (λ (u : Path). Before (s ∷ w) u) (sym r.2) (inr (refl, a.0 r.0 r.1)), ascends_below s ws a.1)

-- what one part appends after others

longer : (prefix : List Text) (s : Step) (ws : List Path) → map (λ w. (prefix ++ token_of s ∷ []) ++ tokens_to w) ws ≡ map (λ w. prefix ++ tokens_to w) (map (λ w. s ∷ w) ws)
longer prefix s [] = refl
longer prefix s (w ∷ ws) = cong2 (append_assoc prefix (token_of s ∷ []) (tokens_to w)) (longer prefix s ws)
  where
    cong2 : {a b : List Text} {xs ys : List (List Text)} → a ≡ b → xs ≡ ys → a ∷ xs ≡ b ∷ ys
    cong2 e f = cc

pub adds_part : (n m : NodeMap) (P Q : Path → Type 0) (prefix : List Text) (s : Step) (old mid new : List (List Text))
    → AddsPointers n P prefix old mid
    → AddsPointers m AnyPath (prefix ++ token_of s ∷ []) mid new
    → m ≡ sub n (s ∷ [])
    → ((w : Path) → P w → Q w)
    → ((w : Path) → Q (s ∷ w))
    → ((w : Path) → Q w → P w ⊎ ((u : Path) × (w ≡ s ∷ u)))
    → ((w u : Path) → P w → Before w (s ∷ u))
    → AddsPointers n Q prefix old new
adds_part n m P Q prefix s old mid new a b is weaker here cases before = record {
  paths = a.paths ++ map (λ w. s ∷ w) b.paths;
  listed =
      b.listed
      ∙ ap (λ l. l ++ map (λ w. (prefix ++ token_of s ∷ []) ++ tokens_to w) b.paths) a.listed
      ∙ append_assoc old (map (λ w. prefix ++ tokens_to w) a.paths) (map (λ w. (prefix ++ token_of s ∷ []) ++ tokens_to w) b.paths)
      ∙ ap (λ l. old ++ (map (λ w. prefix ++ tokens_to w) a.paths ++ l)) (longer prefix s b.paths)
      ∙ ap (λ l. old ++ l) (sym (map-append (λ w. prefix ++ tokens_to w) a.paths (map (λ w. s ∷ w) b.paths)));
  there = λ w h. elim (among_cases a.paths (map (λ u. s ∷ u) b.paths) w h) [
    | inl l ↦ let r = a.there w l in (weaker w r.0, r.1)
    | inr r ↦ part w r
  ];
  all = λ w q some. elim (cases w q) [
    | inl p ↦ among_left a.paths (map (λ u. s ∷ u) b.paths) w (a.all w p some)
    | inr r ↦ among_right a.paths (map (λ u. s ∷ u) b.paths) w (child w r.0 r.1 some)
  ];
  order = ascends_append a.paths (map (λ w. s ∷ w) b.paths) a.order (ascends_below s b.paths b.order)
      (λ w v l r. let q = map_among (λ u. s ∷ u) b.paths v r in subst (λ (u : Path). Before w u) (sym q.2) (before w q.0 (a.there w l).0));
}
  where
    part : (w : Path) → Among (map (λ u. s ∷ u) b.paths) w → Q w × IsSome (n w)
    part w h =
        let r = map_among (λ u. s ∷ u) b.paths w h in
        let some : IsSome (m r.0) = (b.there r.0 r.1).1 in
        (subst Q (sym r.2) (here r.0), subst (λ (v : Path). IsSome (n v)) (sym r.2) (subst (λ (k : NodeMap). IsSome (k r.0)) is some))

    child : (w u : Path) → w ≡ s ∷ u → IsSome (n w) → Among (map (λ v. s ∷ v) b.paths) w
    child w u e some =
        let below : IsSome (m u) = subst (λ (k : NodeMap). IsSome (k u)) (sym is) (subst (λ (v : Path). IsSome (n v)) e some) in
        subst (λ (v : Path). Among (map (λ x. s ∷ x) b.paths) v) (sym e) (among_map (λ v. s ∷ v) b.paths u (b.all u tt below))

-- nothing yet
pub adds_none : (n : NodeMap) (P : Path → Type 0) (prefix : List Text) (old : List (List Text)) → ((w : Path) → P w → IsSome (n w) → ⊥) → AddsPointers n P prefix old old
adds_none n P prefix old none = record {
  paths = [];
  listed = sym (append-nil old);
  there = λ w h. absurd h;
  all = λ w p some. none w p some;
  order = tt;
}

-- the same for paths that have one property exactly if they have the other
pub adds_same : (n : NodeMap) (P Q : Path → Type 0) (prefix : List Text) (old new : List (List Text)) → AddsPointers n P prefix old new → ((w : Path) → P w → Q w) → ((w : Path) → Q w → IsSome (n w) → P w) → AddsPointers n Q prefix old new
adds_same n P Q prefix old new a weaker stronger = record {
  paths = a.paths;
  listed = a.listed;
  there = λ w h. (weaker w (a.there w h).0, (a.there w h).1);
  all = λ w q some. a.all w (stronger w q some) some;
  order = a.order;
}

-- the root, and then all below it
pub adds_root : (n : NodeMap) (prefix : List Text) (old mid new : List (List Text)) → mid ≡ old ++ prefix ∷ [] → IsSome (n []) → AddsPointers n NotRoot prefix mid new → AddsPointers n AnyPath prefix old new
adds_root n prefix old mid new pushed root a = record {
  paths = [] ∷ a.paths;
  listed =
      a.listed
      ∙ ap (λ l. l ++ map (λ w. prefix ++ tokens_to w) a.paths) pushed
      ∙ append_assoc old (prefix ∷ []) (map (λ w. prefix ++ tokens_to w) a.paths)
      ∙ ap (λ (l : List Text). old ++ (l ∷ map (λ w. prefix ++ tokens_to w) a.paths)) (sym (append-nil prefix));
  there = λ w h. (
    tt,
    elim h [
      | inl e ↦ subst (λ (v : Path). IsSome (n v)) (sym e) root
      | inr k ↦ (a.there w k).1
    ],
  );
  all = whole;
  order = (first, a.order);
}
  where
    whole : (w : Path) → AnyPath w → IsSome (n w) → Among ([] ∷ a.paths) w
    whole [] p some = inl refl
    whole (s ∷ w) p some = inr (a.all (s ∷ w) tt some)

    first : (v : Path) → Among a.paths v → Before [] v
    first [] h = (a.there [] h).0
    first (s ∷ v) h = tt

-- nothing is below a scalar
pub leaf_below : (n : NodeMap) (v : _) → IsTree n → n [] ≡ Some (a_leaf v) → (w : Path) → NotRoot w → IsSome (n w) → ⊥
leaf_below n v tree leaf [] p some = p
leaf_below n v tree leaf (s ∷ w) p some = subst (λ (o : Option Label). MayHave o s) leaf (tree.parent [] s (IsTree-above n tree (s ∷ []) w some))

-- elements

pub in_none : (w : Path) → InFirst 0 w → ⊥
in_none [] p = p
in_none (key k ∷ w) p = p
in_none (place i ∷ w) p = omega (arith, p)

pub in_more : (i : ℕ) (w : Path) → InFirst i w → InFirst (i + 1) w
in_more i [] p = p
in_more i (key k ∷ w) p = p
in_more i (place j ∷ w) p = omega (arith, p)

pub in_cases : (i : ℕ) (w : Path) → InFirst (i + 1) w → InFirst i w ⊎ ((u : Path) × (w ≡ place i ∷ u))
in_cases i [] p = absurd p
in_cases i (key k ∷ w) p = absurd p
in_cases i (place j ∷ w) p = elim (cases_lt j i) [
  | inl l ↦ inl l
  | inr g ↦ let same : j ≡ i = omega (arith, p) in inr (w, ap (λ k. place k ∷ w) same)
]

pub in_before : (i : ℕ) (w u : Path) → InFirst i w → Before w (place i ∷ u)
in_before i [] u p = tt
in_before i (key k ∷ w) u p = absurd p
in_before i (place j ∷ w) u p = inl p

pub in_below : (i : ℕ) (w : Path) → InFirst i w → NotRoot w
in_below i [] p = p
in_below i (s ∷ w) p = tt

-- each path below an array leads through one of its elements
pub below_in : (n : NodeMap) (len i : ℕ) → IsTree n → n [] ≡ Some (an_array len) → len ≤ i → (w : Path) → NotRoot w → IsSome (n w) → InFirst i w
below_in n len i tree label long [] p some = p
below_in n len i tree label long (s ∷ w) p some = inside s w (subst (λ (o : Option Label). MayHave o s) label (tree.parent [] s (IsTree-above n tree (s ∷ []) w some)))
  where
    inside : (s : Step) (w : Path) → MayHave (Some (an_array len)) s → InFirst i (s ∷ w)
    inside (key k) w h = h
    inside (place j) w h = omega (arith, h, long)

-- members

-- an entry of an object or a table with values of the type V
abbrev pub EntryOf : Type 0 → Type 0
EntryOf V = String Global × V

-- one of the entries has the key
abbrev KeyAmong : {V : Type 0} → List (EntryOf V) → Text → Type 0
KeyAmong [] k = ⊥
KeyAmong (e ∷ es) k = (k ≡ string_bytes e.0) ⊎ KeyAmong es k

-- the path leads through one of the entries
abbrev pub Under : {V : Type 0} → List (EntryOf V) → Path → Type 0
Under es [] = ⊥
Under es (key k ∷ w) = KeyAmong es k
Under es (place i ∷ w) = ⊥

pub under_none : (V : Type 0) (w : Path) → Under {V = V} [] w → ⊥
under_none V [] p = p
under_none V (key k ∷ w) p = p
under_none V (place i ∷ w) p = p

key_left : {V : Type 0} (es : List (EntryOf V)) (e : EntryOf V) (k : Text) → KeyAmong es k → KeyAmong (es ++ e ∷ []) k
key_left [] e k h = absurd h
key_left (x ∷ es) e k h = elim h [
  | inl s ↦ inl s
  | inr r ↦ inr (key_left es e k r)
]

pub key_last : {V : Type 0} (es : List (EntryOf V)) (e : EntryOf V) → KeyAmong (es ++ e ∷ []) (string_bytes e.0)
key_last [] e = inl refl
key_last (x ∷ es) e = inr (key_last es e)

key_cases : {V : Type 0} (es : List (EntryOf V)) (e : EntryOf V) (k : Text) → KeyAmong (es ++ e ∷ []) k → KeyAmong es k ⊎ (k ≡ string_bytes e.0)
key_cases [] e k h = elim h [
  | inl s ↦ inr s
  | inr r ↦ absurd r
]
key_cases (x ∷ es) e k h = elim h [
  | inl s ↦ inl (inl s)
  | inr r ↦ elim (key_cases es e k r) [
    | inl l ↦ inl (inr l)
    | inr s ↦ inr s
  ]
]

below_middle : {V : Type 0} (first : EntryOf V) (es : List (EntryOf V)) (e : EntryOf V) (more : List (EntryOf V)) → AllByRecursion (λ y. string_cmp first.0 y ≡ Less) (keys_of (es ++ e ∷ more)) → string_cmp first.0 e.0 ≡ Less
below_middle first [] e more h = h.0
below_middle first (x ∷ es) e more h = below_middle first es e more h.1

key_before : {V : Type 0} (done : List (EntryOf V)) (e : EntryOf V) (more : List (EntryOf V)) → IsStrictlySortedBy string_cmp (keys_of (done ++ e ∷ more)) → (k : Text) → KeyAmong done k → slice_cmp nat_cmp k (string_bytes e.0) ≡ Less
unfolding IsStrictlySortedBy
key_before [] e more h k among = absurd among
key_before (x ∷ done) e more h k among = elim among [
  | inl s ↦ subst (λ (l : Text). slice_cmp nat_cmp l (string_bytes e.0) ≡ Less) (sym s) (below_middle x done e more h.0)
  | inr r ↦ key_before done e more h.1 k r
]

pub under_more : {V : Type 0} (done : List (EntryOf V)) (e : EntryOf V) (w : Path) → Under done w → Under (done ++ e ∷ []) w
under_more done e [] p = p
under_more done e (key k ∷ w) p = key_left done e k p
under_more done e (place j ∷ w) p = p

pub under_cases : {V : Type 0} (done : List (EntryOf V)) (e : EntryOf V) (w : Path) → Under (done ++ e ∷ []) w → Under done w ⊎ ((u : Path) × (w ≡ key (string_bytes e.0) ∷ u))
under_cases done e [] p = absurd p
under_cases done e (key k ∷ w) p = elim (key_cases done e k p) [
  | inl l ↦ inl l
  | inr same ↦ inr (w, ap (λ l. key l ∷ w) same)
]
under_cases done e (place j ∷ w) p = absurd p

pub under_before : {V : Type 0} (done : List (EntryOf V)) (e : EntryOf V) (more : List (EntryOf V)) → IsStrictlySortedBy string_cmp (keys_of (done ++ e ∷ more)) → (w u : Path) → Under done w → Before w (key (string_bytes e.0) ∷ u)
under_before done e more sorted [] u p = tt
under_before done e more sorted (key k ∷ w) u p = inl (key_before done e more sorted k p)
under_before done e more sorted (place j ∷ w) u p = absurd p

pub under_below : {V : Type 0} (es : List (EntryOf V)) (w : Path) → Under es w → NotRoot w
under_below es [] p = p
under_below es (s ∷ w) p = tt

-- an entry of a map in order is the one that its key finds
entry_found : {V : Type 0} (done : List (EntryOf V)) (e : EntryOf V) (more : List (EntryOf V)) → IsStrictlySortedBy string_cmp (keys_of (done ++ e ∷ more)) → lookup (is_at (λ l. slice_cmp nat_cmp (string_bytes e.0) (string_bytes l))) (done ++ e ∷ more) ≡ Some e.1
unfolding IsStrictlySortedBy
entry_found [] e more h = ap (λ (o : Ordering). cond (is_eq o) (Some e.1) (lookup (is_at (λ l. slice_cmp nat_cmp (string_bytes e.0) (string_bytes l))) more)) (tied_itself nat_list_cmp_total (string_bytes e.0))
entry_found (first ∷ done) e more h =
    let later = entry_found done e more h.1 in
    let above : slice_cmp nat_cmp (string_bytes e.0) (string_bytes first.0) ≡ Greater =
    nat_list_cmp_total.antisymm (string_bytes e.0) (string_bytes first.0) ∙ ap ordering_reverse (below_middle first done e more h.0) in
    ap (λ (o : Ordering). cond (is_eq o) (Some first.1) (lookup (is_at (λ l. slice_cmp nat_cmp (string_bytes e.0) (string_bytes l))) (done ++ e ∷ more))) above ∙ later

pub entry_there : {V : Type 0} (m : BTreeMap (String Global) V) (done : List (EntryOf V)) (e : EntryOf V) (more : List (EntryOf V)) → m.entries ≡ done ++ e ∷ more → IsStrictlySortedBy string_cmp (keys_of m.entries) → get_by_text m (string_bytes e.0) ≡ Some e.1
entry_there {V} m done e more is sorted =
    let found = entry_found done e more (subst (λ (es : List (EntryOf V)). IsStrictlySortedBy string_cmp (keys_of es)) is sorted) in
    ap (λ (es : List (EntryOf V)). lookup (is_at (λ l. slice_cmp nat_cmp (string_bytes e.0) (string_bytes l))) es) is ∙ found

-- the key of a found value is the key of an entry
found_key : {V : Type 0} (es : List (EntryOf V)) (k : Text) → IsSome (lookup (is_at (λ l. slice_cmp nat_cmp k (string_bytes l))) es) → KeyAmong es k
found_key [] k h = absurd (true≢false (sym h))
found_key {V} (e ∷ es) k h = by_test (found_key es k) (is_eq (slice_cmp nat_cmp k (string_bytes e.0))) refl h
  where
    by_test : (IsSome (lookup (is_at (λ l. slice_cmp nat_cmp k (string_bytes l))) es) → KeyAmong es k) → (b : Bool) → is_eq (slice_cmp nat_cmp k (string_bytes e.0)) ≡ b → IsSome (cond b (Some e.1) (lookup (is_at (λ l. slice_cmp nat_cmp k (string_bytes l))) es)) → KeyAmong (e ∷ es) k
    by_test later true is some = inl ((bytes_eq-Decides k (string_bytes e.0)).0 (sym (is_eq-slice_cmp k (string_bytes e.0)) ∙ is))
    by_test later false is some = inr (later some)

some_there : {V : Type 0} (content_of : V → Content) (o : Option V) (c : Option Content) → c ≡ option_map content_of o → IsSome (option_map label_of c) → IsSome o
some_there content_of None c e h = absurd (true≢false (sym (subst (λ (x : Option Content). IsSome (option_map label_of x)) e h)))
some_there content_of (Some v) c e h = refl

-- each path below an object leads through one of its members
pub below_under : {V : Type 0} (content_of : V → Content) (c : Content) (m : BTreeMap (String Global) V) → map_of c [] ≡ Some an_object → ((k : List ℕ) → content_at (key k ∷ []) c ≡ option_map content_of (get_by_text m k)) → (w : Path) → NotRoot w → IsSome (map_of c w) → Under m.entries w
below_under content_of c m label law [] p some = p
below_under {V} content_of c m label law (s ∷ w) p some =
    let tree = map_of-IsTree c in
    let one = IsTree-above (map_of c) tree (s ∷ []) w some in
    under s w (subst (λ (o : Option Label). MayHave o s) label (tree.parent [] s one)) one
  where
    under : (s : Step) (w : Path) → MayHave (Some an_object) s → IsSome (map_of c (s ∷ [])) → Under m.entries (s ∷ w)
    under (key k) w h there = found_key m.entries k (some_there content_of (get_by_text m k) (content_at (key k ∷ []) c) (law k) there)
    under (place j) w h there = h

-- the whole walk

token_is : (o : Option Label) (x : Text) (s : Step) → NamesStep o x s → x ≡ token_of s
token_is None x s h = absurd h
token_is (Some an_object) x (key k) h = sym h
token_is (Some an_object) x (place i) h = absurd h
token_is (Some (an_array len)) x (key k) h = absurd h
token_is (Some (an_array len)) x (place i) h = h.1
token_is (Some (a_leaf v)) x s h = absurd h

pub tokens_are : (n : NodeMap) (ts : List Text) (w : Path) → Names n ts w → ts ≡ tokens_to w
tokens_are n [] [] h = refl
tokens_are n [] (s ∷ w) h = absurd h
tokens_are n (x ∷ ts) [] h = absurd h
tokens_are n (x ∷ ts) (s ∷ w) h =
    let first : x ≡ token_of s = token_is (n []) x s h.0 in
    let others : ts ≡ tokens_to w = tokens_are (sub n (s ∷ [])) ts w h.1 in
    cc

pub named_by_steps : (n : NodeMap) → IsTree n → (w : Path) → IsSome (n w) → Names n (tokens_to w) w
named_by_steps n tree w some =
    let r = IsTree-named n tree w some in
    subst (λ (ts : List Text). Names n ts w) (tokens_are n r.0 w r.1) r.1

ordered : (ws : List Path) (above below : List (List Text)) (ts us : List Text) → Ascends ws → map tokens_to ws ≡ above ++ ts ∷ below → Among below us → (p q : Path) × Among ws p × Among ws q × (ts ≡ tokens_to p) × (us ≡ tokens_to q) × Before p q
ordered [] [] below ts us a e h = let none : ⊥ = cc in absurd none
ordered [] (x ∷ above) below ts us a e h = let none : ⊥ = cc in absurd none
ordered (w ∷ ws) [] below ts us a e h =
    let head : tokens_to w ≡ ts = cc in
    let tail : map tokens_to ws ≡ below = cc in
    let r = map_among tokens_to ws us (subst (λ (l : List (List Text)). Among l us) (sym tail) h) in
    (w, r.0, inl refl, inr r.1, sym head, r.2, a.0 r.0 r.1)
ordered (w ∷ ws) (x ∷ above) below ts us a e h =
    let tail : map tokens_to ws ≡ above ++ ts ∷ below = cc in
    let r = ordered ws above below ts us a.1 tail h in
    (r.0, r.1, inr r.2, inr r.3, r.4, r.5, r.6)

pub walk_whole : (n : NodeMap) (lists : List (List Text)) (prefix : List Text) (none : List (List Text)) → prefix ≡ [] → none ≡ [] → IsTree n → AddsPointers n AnyPath prefix none lists → IsWalk n lists
walk_whole n lists prefix none root empty tree a = record {
  nodes = λ ts. (λ h. one ts (contains_among lists ts h), λ h. two ts h.0 h.1);
  once = λ above below ts e h.
      let r = ordered a.paths above below ts ts a.order (sym listed ∙ e) (contains_among below ts h) in
      let same : r.0 ≡ r.1 = Names_one_path n ts r.0 r.1 (path_of r.0 ts r.2 r.4) (path_of r.1 ts r.3 r.5) in
      not_before_itself r.1 (subst (λ (w : Path). Before w r.1) same r.6);
  order = λ above below ts us p q e h f g.
      let r = ordered a.paths above below ts us a.order (sym listed ∙ e) (contains_among below us h) in
      let first : r.0 ≡ p = Names_one_path n ts r.0 p (path_of r.0 ts r.2 r.4) f in
      let second : r.1 ≡ q = Names_one_path n us r.1 q (path_of r.1 us r.3 r.5) g in
      subst (λ (w : Path). Before w q) first (subst (λ (w : Path). Before r.0 w) second r.6);
}
  where
    listed : lists ≡ map tokens_to a.paths
    listed = a.listed ∙ ap (λ l. l ++ map (λ w. prefix ++ tokens_to w) a.paths) empty ∙ ap (λ (l : List Text). map (λ w. l ++ tokens_to w) a.paths) root

    path_of : (w : Path) (ts : List Text) → Among a.paths w → ts ≡ tokens_to w → Names n ts w
    path_of w ts h e = subst (λ (us : List Text). Names n us w) (sym e) (named_by_steps n tree w (a.there w h).1)

    one : (ts : List Text) → Among lists ts → (w : Path) × Names n ts w
    one ts h =
        let r = map_among tokens_to a.paths ts (subst (λ (l : List (List Text)). Among l ts) listed h) in
        (r.0, path_of r.0 ts r.1 r.2)

    two : (ts : List Text) (w : Path) → Names n ts w → Contains lists ts
    two ts w h =
        let among : Among (map tokens_to a.paths) (tokens_to w) = among_map tokens_to a.paths w (a.all w tt (Names-here n ts w h)) in
        among_contains lists ts (subst (λ (l : List (List Text)). Among l ts) (sym listed) (subst (λ (us : List Text). Among (map tokens_to a.paths) us) (sym (tokens_are n ts w h)) among))
