-- The next node of a walk.
use Rattle.std.proofs.Common.{◌≡◌, inl, inr, ◌⊎◌, List, [], ◌∷◌, ◌++◌, IsSome, Less, Greater, nat_cmp, refl, sym, ap, subst, ◌∙◌, arith, append_assoc}
use Rattle.std.specs.Cmp.Lexicographic.{slice_cmp}
use Rattle.std.specs.Ordering.{ordering_reverse}
use Rattle.std.proofs.lemmas.Cmp.{nat_list_cmp_total}
use Rattle.jsonptr.specs.Text.{Text}
use Rattle.jsonptr.specs.Node.{Step, key, place, Path, NodeMap, Names, IsTree}
use Rattle.jsonptr_tree.proofs.NodeLemmas.{Names-here, Names_one_path, IsTree-named}
use Rattle.jsonptr_text_paths.specs.Walking.{ChildBefore, Before, IsWalk}
use Rattle.jsonptr_text_paths.specs.PrivateWalking.{Among}
use Rattle.jsonptr_text_paths.proofs.WalkingLemmas.{among_left, among_right, among_cases, contains_among, among_contains}
use Rattle.jsonptr_text_paths.specs.PrivateRebuilding.{IsPart, IsNext, Named}

-- what is before and after one of a list
among_split : {X : Type 0} (xs : List X) (x : X) → Among xs x → (above below : List X) × (xs ≡ above ++ x ∷ below)
among_split [] x h = absurd h
among_split (y ∷ ys) x h = elim h [
  | inl e ↦ ([], ys, ap (λ z. z ∷ ys) (sym e))
  | inr k ↦ let r = among_split ys x k in (y ∷ r.0, r.1, ap (λ zs. y ∷ zs) r.2)
]

-- of two paths only one is before the other
child_once : (s t : Step) → ChildBefore s t → ChildBefore t s → ⊥
child_once (key k) (key l) h g =
    let flipped : slice_cmp nat_cmp l k ≡ Greater = nat_list_cmp_total.antisymm l k ∙ ap ordering_reverse h in
    let wrong : Less ≡ Greater = sym g ∙ flipped in
    absurd (cc)
child_once (key k) (place j) h g = h
child_once (place i) (key l) h g = h
child_once (place i) (place j) h g = omega (arith, h, g)

pub not_after : (p q : Path) → Before p q → Before q p → ⊥
not_after [] [] h g = h
not_after [] (t ∷ q) h g = g
not_after (s ∷ p) [] h g = h
not_after (s ∷ p) (t ∷ q) h g = elim h [
  | inl c ↦ elim g [
    | inl d ↦ child_once s t c d
    | inr e ↦ child_once s s (subst (λ (x : Step). ChildBefore s x) e.0 c) (subst (λ (x : Step). ChildBefore s x) e.0 c)
  ]
  | inr e ↦ elim g [
    | inl d ↦ child_once s s (subst (λ (x : Step). ChildBefore x s) (sym e.0) d) (subst (λ (x : Step). ChildBefore x s) (sym e.0) d)
    | inr f ↦ not_after p q e.1 f.1
  ]
]

-- the node that the next list of tokens names
pub next_of : (n : NodeMap) (above below : List (List Text)) (ts : List Text) (p : Path) → IsTree n → IsWalk n (above ++ ts ∷ below) → Names n ts p → IsNext n (Named n above) p
next_of n above below ts p tree walk names = record {
  here = Names-here n ts p names;
  after = λ w h.
      let cut = among_split above h.0 h.1 in
      let all : above ++ ts ∷ below ≡ cut.0 ++ h.0 ∷ (cut.1 ++ ts ∷ below) = ap (λ l. l ++ ts ∷ below) cut.2 ∙ append_assoc cut.0 (h.0 ∷ cut.1) (ts ∷ below) in
      walk.order cut.0 (cut.1 ++ ts ∷ below) h.0 ts w p all (among_contains (cut.1 ++ ts ∷ below) ts (among_right cut.1 (ts ∷ below) ts (inl refl))) h.2 names;
  all = λ w some before.
      let named = IsTree-named n tree w some in
      elim (among_cases above (ts ∷ below) named.0 (contains_among (above ++ ts ∷ below) named.0 ((walk.nodes named.0).1 (w, named.1)))) [
        | inl l ↦ (named.0, l, named.1)
        | inr r ↦ elim r [
          | inl same ↦
              let one : w ≡ p = Names_one_path n ts w p (subst (λ (l : List Text). Names n l w) same named.1) names in
              absurd (not_after p p (subst (λ (v : Path). Before v p) one before) (subst (λ (v : Path). Before v p) one before))
          | inr later ↦ absurd (not_after w p before (walk.order above below ts named.0 p w refl (among_contains below named.0 later) names named.1))
        ]
      ];
}

-- a walk begins at the root
pub first_of_walk : (n : NodeMap) (ts : List Text) (below : List (List Text)) → IsSome (n []) → IsWalk n (ts ∷ below) → ts ≡ []
first_of_walk n ts below root walk =
    let here = (walk.nodes ts).0 (among_contains (ts ∷ below) ts (inl refl)) in
    elim (contains_among (ts ∷ below) [] ((walk.nodes []).1 ([], root))) [
      | inl same ↦ sym same
      | inr later ↦ absurd (nothing_before here.0 (walk.order [] below ts [] here.0 [] refl (among_contains below [] later) here.1 root))
    ]
  where
    nothing_before : (p : Path) → Before p [] → ⊥
    nothing_before [] h = h
    nothing_before (s ∷ p) h = h

pub no_walk : (n : NodeMap) → IsSome (n []) → IsWalk n [] → ⊥
no_walk n root walk = contains_among [] [] ((walk.nodes []).1 ([], root))

-- a part by another property of the same paths
pub part_same : (n m : NodeMap) (P Q : Path → Type 0) → ((w : Path) → P w → Q w) → ((w : Path) → Q w → P w) → IsPart n P m → IsPart n Q m
part_same n m P Q to from part = record {
  tree = part.tree;
  seen = λ w h. to w (part.seen w h);
  there = λ w h. part.there w (from w h);
  kinds = part.kinds;
}

-- the paths that are named with one list more
pub named_more : (n : NodeMap) (above : List (List Text)) (ts : List Text) (p w : Path) → Names n ts p → Named n above w ⊎ (w ≡ p) → Named n (above ++ ts ∷ []) w
named_more n above ts p w names h = elim h [
  | inl old ↦ (old.0, among_left above (ts ∷ []) old.0 old.1, old.2)
  | inr same ↦ (ts, among_right above (ts ∷ []) ts (inl refl), subst (λ (v : Path). Names n ts v) (sym same) names)
]

pub more_named : (n : NodeMap) (above : List (List Text)) (ts : List Text) (p w : Path) → Names n ts p → Named n (above ++ ts ∷ []) w → Named n above w ⊎ (w ≡ p)
more_named n above ts p w names h = elim (among_cases above (ts ∷ []) h.0 h.1) [
  | inl l ↦ inl (h.0, l, h.2)
  | inr r ↦ elim r [
    | inl same ↦ inr (Names_one_path n ts w p (subst (λ (l : List Text). Names n l w) same h.2) names)
    | inr none ↦ absurd none
  ]
]

-- a walk names all nodes
pub all_named : (n : NodeMap) (lists : List (List Text)) → IsTree n → IsWalk n lists → (w : Path) → IsSome (n w) → Named n lists w
all_named n lists tree walk w some =
    let named = IsTree-named n tree w some in
    (named.0, contains_among lists named.0 ((walk.nodes named.0).1 (w, named.1)), named.1)
