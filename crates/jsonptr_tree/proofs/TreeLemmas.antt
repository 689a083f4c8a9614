-- Trees, level by level, and with a tree put at a path.
use Rattle.std.proofs.Common.{◌≡◌, ℕ, ◌<◌, [], ◌∷◌, ◌++◌, Option, Some, None, IsSome, false, ◌⊎◌, inl, inr, refl, sym, subst}
use Rattle.jsonptr_tree.specs.Node.{Step, place, Path, Label, an_array, NodeMap, sub, MayHave, IsTree}
use Rattle.jsonptr_tree.specs.Put.{same_step, put}
use Rattle.jsonptr_tree.proofs.NodeLemmas.{IsTree-above, IsTree-sub}
use Rattle.jsonptr_tree.proofs.PutLemmas.{cases_same, put-step, put-other_step}

-- a map is a tree if it has a root, the root may have each child that it has, each child is a tree, and an
-- array at the root is full
pub IsTree-level : (n : NodeMap) → IsSome (n []) → ((s : Step) (w : Path) → IsSome (n (s ∷ w)) → MayHave (n []) s × IsTree (sub n (s ∷ []))) → ((len i : ℕ) → n [] ≡ Some (an_array len) → i < len → IsSome (n (place i ∷ []))) → IsTree n
IsTree-level n root child full = record {
  root = root;
  parent = parent;
  full = all;
}
  where
    parent : (w : Path) (s : Step) → IsSome (n (w ++ s ∷ [])) → MayHave (n w) s
    parent [] s i = (child s [] i).0
    parent (t ∷ w) s i = (child t (w ++ s ∷ []) i).1.parent w s i

    some : (o : Option Label) (l : Label) → o ≡ Some l → IsSome o
    some None l e = cc
    some (Some k) l e = refl

    all : (w : Path) (len i : ℕ) → n w ≡ Some (an_array len) → i < len → IsSome (n (w ++ place i ∷ []))
    all [] len i e b = full len i e b
    all (t ∷ w) len i e b = (child t w (some (n (t ∷ w)) (an_array len) e)).1.full w len i e b

-- a child of a tree
pub IsTree-child : (n : NodeMap) → IsTree n → (s : Step) (w : Path) → IsSome (n (s ∷ w)) → MayHave (n []) s × IsTree (sub n (s ∷ []))
IsTree-child n tree s w i =
    let here : IsSome (n (s ∷ [])) = IsTree-above n tree (s ∷ []) w i in
    (tree.parent [] s here, IsTree-sub n (s ∷ []) tree here)

-- a tree put at a node of a tree
pub IsTree-put : (n : NodeMap) (w : Path) (v : NodeMap) → IsTree n → IsSome (n w) → IsTree v → IsTree (put n w v)
IsTree-put n [] v tree h new = new
IsTree-put n (s ∷ w) v tree h new =
    let at = IsTree-child n tree s w h in
    let inner : IsTree (put (sub n (s ∷ [])) w v) = IsTree-put (sub n (s ∷ [])) w v at.1 h new in
    let below : IsTree (sub (put n (s ∷ w) v) (s ∷ [])) = subst IsTree (sym (put-step n s w v)) inner in
    IsTree-level (put n (s ∷ w) v) tree.root (child at.0 below) (full below)
  where
    child : MayHave (n []) s → IsTree (sub (put n (s ∷ w) v) (s ∷ [])) → (t : Step) (u : Path) → IsSome (put n (s ∷ w) v (t ∷ u)) → MayHave (n []) t × IsTree (sub (put n (s ∷ w) v) (t ∷ []))
    child may below t u i = go (cases_same s t)
      where
        go : (s ≡ t) ⊎ (same_step s t ≡ false) → MayHave (n []) t × IsTree (sub (put n (s ∷ w) v) (t ∷ []))
        go (inl e) = subst (λ (a : Step). MayHave (n []) a × IsTree (sub (put n (s ∷ w) v) (a ∷ []))) e (may, below)
        go (inr e) =
            let same = put-other_step n s t w v e in
            let old = IsTree-child n tree t u (subst (λ (k : NodeMap). IsSome (k u)) same i) in
            (old.0, subst IsTree (sym same) old.1)

    full : IsTree (sub (put n (s ∷ w) v) (s ∷ [])) → (len i : ℕ) → n [] ≡ Some (an_array len) → i < len → IsSome (put n (s ∷ w) v (place i ∷ []))
    full below len i e b = go (cases_same s (place i))
      where
        go : (s ≡ place i) ⊎ (same_step s (place i) ≡ false) → IsSome (put n (s ∷ w) v (place i ∷ []))
        go (inl e) = subst (λ (a : Step). IsSome (put n (s ∷ w) v (a ∷ []))) e below.root
        go (inr f) = subst (λ (k : NodeMap). IsSome (k [])) (sym (put-other_step n s (place i) w v f)) (tree.full [] len i e b)
